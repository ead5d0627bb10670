-- A join keeps the rule.
use Rattle.std.proofs.Common.{◌≡◌, ◌≢◌, ◌⊎◌, ℕ, ◌+◌, ◌<◌, ◌≤◌, Bool, true, false, cond, ap, ap₂, sym, refl, subst, ◌∙◌, inl, inr, ⊎_elim, arith, List, [], ◌∷◌, ◌++◌, map, max, length, set, eq-eqb, ne_eqb}
use mathlib.Core.Option.{some-injective, some-ne-none}
use mathlib.Core.Option as maybe
use native.Mathlib.Decide.{dec_le, ℕ_discrete}
use lib.ListN.{get_elem?}
use Rattle.std.specs.Prelude.{Option, Some, None, IsSome, slice_index, nat_lt}
use Rattle.std.proofs.lemmas.Bool.{cond_above}
use Rattle.atomic_table.specs.Table.{State, Joins, Allows, keeps, step}
use Rattle.std.proofs.lemmas.Option.{none-some, same_Some}
use Rattle.session_table.specs.Tells.{meets}
use Rattle.session_table.proofs.Journals.{starts_itself}
use Rattle.std.proofs.lemmas.List.{set-get_or}
use Rattle.std.proofs.lemmas.Bool.{ltb-true, ltb-false}
use Rattle.atomic_table.proofs.Lists.{set_else, set_again}
use Rattle.pk_base.specs.declared.act.Entry.{Entry}
use Rattle.session_table.specs.declared.view.Bounds.{Bounds}
use Rattle.session_table.specs.declared.view.Joined.{Joined}
use Rattle.session_table.specs.declared.view.Line.{Line}
use Rattle.session_table.specs.declared.view.Note.{Note}
use Rattle.session_table.specs.declared.view.View.{View}
use Rattle.session_table.specs.Entries.{only, StartsWith, longer}
use Rattle.session_table.specs.Named.{Named}
use Rattle.session_table.specs.Seats.{blank_line, line_in, seen_of, mine_of, note_of, joined_as}
use Rattle.session_table.specs.Steps.{greater, line_of_both, joined_by, nobody}
use Rattle.session_table.specs.Rule.{IsSeat, EachSeat, IsSeated, note_for, HaveNumbers, Roster, total, one_if_seat, one_if_pending, Rule}
use Rattle.session_table.proofs.Seating.{placed, seat_set, others_differ, total-set}
use Rattle.session_table.proofs.Book.{note_itself, lies_same}
use Rattle.session_table.specs.Seats.{line_here, line_there}

-- ---- the lines of both

-- a line of both, where the second seat has one, and else the first one's
both_or_first : (v w : View) (q : ℕ) (ls : List Line) → (line_in (map (λ (l : Line). line_of_both v w l.partition) ls ++ v.lines) q ≡ line_of_both v w q)
    ⊎ ((line_in (map (λ (l : Line). line_of_both v w l.partition) ls ++ v.lines) q ≡ line_in v.lines q) × (line_in ls q ≡ blank_line q))
both_or_first v w q [] = inr (refl, refl)
both_or_first v w q (l ∷ ls) = let more : List Line = map (λ (k : Line). line_of_both v w k.partition) ls ++ v.lines in
    elim (ℕ_discrete l.partition q) as (λ _. (line_in (line_of_both v w l.partition ∷ more) q ≡ line_of_both v w q) ⊎ ((line_in (line_of_both v w l.partition ∷ more) q ≡ line_in v.lines q) × (line_in (l ∷ ls) q ≡ blank_line q))) [
      | yes e ↦ inl (line_here (line_of_both v w l.partition) more q e ∙ ap (line_of_both v w) e)
      | no ne ↦
          let skip = line_there (line_of_both v w l.partition) more q ne in
          ⊎_elim (λ h. inl (skip ∙ h)) (λ h. inr (skip ∙ h.0, line_there l ls q ne ∙ h.1)) (both_or_first v w q ls)
    ]

longer_none : (xs : List Entry) → longer xs [] ≡ xs
longer_none xs = sym (cond_above (length xs) 0 [] xs xs (omega arith) refl)

pub joined_seen : (v w : View) (q : ℕ) → seen_of (joined_by v w) q ≡ longer (seen_of v q) (seen_of w q)
joined_seen v w q = ⊎_elim (λ h. ap (λ (l : Line). l.seen) h)
    (λ h. ap (λ (l : Line). l.seen) h.0 ∙ sym (ap (λ (l : Line). longer (seen_of v q) l.seen) h.1 ∙ longer_none (seen_of v q))) (both_or_first v w q w.lines)

pub joined_mine : (v w : View) (q : ℕ) → mine_of (joined_by v w) q ≡ mine_of v q
joined_mine v w q = ⊎_elim (λ h. ap (λ (l : Line). l.mine) h) (λ h. ap (λ (l : Line). l.mine) h.0) (both_or_first v w q w.lines)

pub joined_note : (v w : View) (q : ℕ) → note_of (joined_by v w) q ≡ note_of v q
joined_note v w q = ⊎_elim (λ h. ap (λ (l : Line). l.note) h) (λ h. ap (λ (l : Line). l.note) h.0) (both_or_first v w q w.lines)

starts_longer : (journal xs ys : List Entry) → StartsWith journal xs → StartsWith journal ys → StartsWith journal (longer xs ys)
starts_longer journal xs ys a b = elim (nat_lt (length xs) (length ys)) as (λ c. StartsWith journal (cond c ys xs)) [ true ↦ b | false ↦ a ]

greater_past : {P : ℕ → Type 0} (a b : Option ℕ) → ((m : ℕ) → a ≡ Some m → P m) → ((m : ℕ) → b ≡ Some m → P m) → (m : ℕ) → greater a b ≡ Some m → P m
greater_past None b left right m is = right m is
greater_past (Some x) None left right m is = left m is
greater_past {P} (Some x) (Some y) left right m is =
    subst P (same_Some (max x y) m is) (elim (dec_le x y) as (λ _. P (max x y)) [
      | yes le ↦ subst P (let e : y ≡ max x y = omega arith in e) (right y refl)
      | no gt ↦ subst P (let e : x ≡ max x y = omega arith in e) (left x refl)
    ])

true_not_false : true ≡ false → ⊥
true_not_false e = cc

-- ---- the seats

module _ (views : List View) (id other : ℕ) (v w : View) (seat : IsSeat views id v) (ne : other ≢ id) (both : View) where
  abbrev Views : List View
  Views = set (set views id both) other nobody

  -- a seat afterwards is root, or another as it was, and not the one that was joined
  seat_joined : (j : ℕ) (u : View) → IsSeat Views j u → ((j ≡ id) × (both ≡ u)) ⊎ ((j ≢ id) × (j ≢ other) × IsSeat views j u)
  seat_joined j u is = ⊎_elim
      (λ h. absurd (true_not_false (ap (λ (x : View). x.spent) h.1 ∙ is.1)))
      (λ h. ⊎_elim (λ g. inl g) (λ g. inr (g.0, h.0, g.1)) (seat_set views id j both u h.1))
      (seat_set (set views id both) other j nobody u is)

  each_joined : {P : View → Type 0} → ((j : ℕ) (u : View) → j ≢ id → j ≢ other → IsSeat views j u → P u) → P both → EachSeat Views P
  each_joined {P} others own j u is = ⊎_elim (λ h. subst P h.1 own) (λ h. others j u h.0 h.1 h.2) (seat_joined j u is)

  module _ (live : both.spent ≡ false) (same : both.number ≡ v.number) where
    root_seated : IsSeated Views v.number
    root_seated = (id, both, (set_else (set views id both) other id nobody (λ e. ne (sym e)) ∙ placed views id v both seat.0, live), same)

    seated_joined : (child : get_elem? views other ≡ maybe.some w) (t : ℕ) → t ≢ w.number → IsSeated views t → IsSeated Views t
    seated_joined child t not (j, u, at, is) = elim (ℕ_discrete j id) as (λ _. IsSeated Views t) [
      | yes e ↦
          let here : v ≡ u = some-injective v u (sym seat.0 ∙ subst (λ (z : ℕ). get_elem? views z ≡ maybe.some u) e at.0) in
          subst (λ (n : ℕ). IsSeated Views n) (ap (λ (x : View). x.number) here ∙ is) root_seated
      | no apart ↦
          let away : j ≢ other = λ e.
          let there : w ≡ u = some-injective w u (sym child ∙ subst (λ (z : ℕ). get_elem? views z ≡ maybe.some u) e at.0) in
          not (sym is ∙ ap (λ (x : View). x.number) (sym there)) in
          (j, u, (set_else (set views id both) other j nobody away ∙ (set_else views id j both apart ∙ at.0), at.1), is)
    ]

  total_joined : (f : View → ℕ) → (child : get_elem? (set views id both) other ≡ maybe.some w) → total f Views + f w + f v ≡ total f views + f nobody + f both
  total_joined f child = let a = total-set f (set views id both) other w nobody child in let b = total-set f views id v both seat.0 in omega arith

pub kept_new : (j : Joined) (js : List Joined) (t : ℕ) → j.number ≡ t → joined_as (j ∷ js) t ≡ Some j
kept_new j js t e = ap (λ (b : Bool). cond b (Some j) (joined_as js t)) (eq-eqb j.number t e)

kept_old : (j : Joined) (js : List Joined) (t : ℕ) → j.number ≢ t → joined_as (j ∷ js) t ≡ joined_as js t
kept_old j js t ne = ap (λ (b : Bool). cond b (Some j) (joined_as js t)) (ne_eqb j.number t ne)

module _ {X : Type 0} (named : X → Named) (bounds : Bounds) (s : State (Option X) View) (r : Rule named bounds s) (id other : ℕ) (v w : View) where
  abbrev Root : View
  Root = joined_by v w

  abbrev Child : Joined
  Child = record { number = w.number; lines = w.lines; found = v.lines }

  abbrev New : List Joined
  New = Child ∷ r.joined

  module _ (seat : IsSeat s.views id v) (is_root : v.number ≡ 0) (ne : other ≢ id) (child : IsSeat s.views other w) (after : get_elem? (set s.views id Root) other ≡ maybe.some w)
      (free : (p : ℕ) → note_of w p ≡ None) (calm : w.pending ≡ false) where
    abbrev After : List View
    After = Views s.views id other v w seat ne Root

    not_root : w.number ≢ v.number
    not_root = others_differ s.views r.numbers id other v w seat child ne

    -- who holds a partition is not the seat that is joined
    not_child : (p t : ℕ) → (r.book p).holder ≡ Some t → t ≢ w.number
    not_child p t held e =
        let note : Note = record { journal = (r.book p).journal; blocks = (r.book p).blocks } in
        none-some note (sym (free p) ∙ r.notes other w child p ∙ ap (λ (o : Option ℕ). note_for o note w.number) (held ∙ ap Some e) ∙ note_itself note w.number)

    numbers : HaveNumbers After
    numbers i j a b one two e = ⊎_elim
        (λ h. ⊎_elim (λ g. h.0 ∙ sym g.0)
        (λ g. absurd (others_differ s.views r.numbers id j v b seat g.2 g.0 (sym e ∙ ap (λ (x : View). x.number) (sym h.1))))
        (seat_joined s.views id other v w seat ne Root j b two))
        (λ h. ⊎_elim (λ g. absurd (others_differ s.views r.numbers id i v a seat h.2 h.0 (e ∙ ap (λ (x : View). x.number) (sym g.1))))
        (λ g. r.numbers i j a b h.2 g.2 e) (seat_joined s.views id other v w seat ne Root j b two))
        (seat_joined s.views id other v w seat ne Root i a one)

    each : {P : View → Type 0} → ((j : ℕ) (u : View) → j ≢ id → j ≢ other → IsSeat s.views j u → P u) → P Root → EachSeat After P
    each {P} others own = each_joined s.views id other v w seat ne Root {P = P} others own

    seated : (t : ℕ) → t ≢ w.number → IsSeated s.views t → IsSeated After t
    seated t away is = seated_joined s.views id other v w seat ne Root seat.1 refl child.0 t away is

    totals : (f : View → ℕ) → total f After + f w + f v ≡ total f s.views + f nobody + f Root
    totals f = total_joined s.views id other v w seat ne Root f after

    past : (m : ℕ) → greater v.past w.past ≡ Some m → (bounds.last < m) × (m ≤ slice_index s.words 0)
    past m is = greater_past v.past w.past (r.past id v seat) (r.past other w child) m is

    roster : Roster r.book r.made New After
    roster = let old = r.roster in let rank = r.ranks other w child in record {
      root = seated 0 (λ e. not_root (sym e ∙ sym is_root)) old.root;
      present = λ t one most. elim (ℕ_discrete w.number t) as (λ _. IsSeated After t ⊎ IsSome (joined_as New t)) [
        | yes e ↦ inr (subst IsSome (sym (kept_new Child r.joined t e)) refl)
        | no away ↦ ⊎_elim (λ h. inl (seated t (λ e. away (sym e)) h))
            (λ h. inr (subst IsSome (sym (kept_old Child r.joined t away)) h)) (old.present t one most)
      ];
      counted =
          let t = totals one_if_seat in let a : one_if_seat w ≡ 1 = ap (λ (b : Bool). cond b 0 1) child.1 in
          let c = old.counted in omega arith;
      few = old.few;
      apart = (rank.3, old.apart);
      numbered = λ t is. elim (ℕ_discrete w.number t) as (λ _. (1 ≤ t) × (t ≤ r.made)) [
        | yes e ↦ let few = rank.2 in let root : v.number ≡ 0 = is_root in let apart : w.number ≢ v.number = not_root in (omega arith, omega arith)
        | no away ↦ old.numbered t (subst IsSome (kept_old Child r.joined t away) is)
      ];
      kept = λ t j is p. elim (ℕ_discrete w.number t) as (λ _. (line_in j.lines p).mine ≡ only t (r.book p).journal) [
        | yes e ↦
            let same : Child ≡ j = same_Some Child j (sym (kept_new Child r.joined t e) ∙ is) in
            ap (λ (k : Joined). (line_in k.lines p).mine) (sym same) ∙ (r.seen other w child p).1 ∙ ap (λ (n : ℕ). only n (r.book p).journal) e
        | no away ↦ old.kept t j (sym (kept_old Child r.joined t away) ∙ is) p
      ];
      seen = λ t j is p. elim (ℕ_discrete w.number t) as (λ _. StartsWith (r.book p).journal (line_in j.lines p).seen × StartsWith (r.book p).journal (line_in j.found p).seen) [
        | yes e ↦
            let same : Child ≡ j = same_Some Child j (sym (kept_new Child r.joined t e) ∙ is) in
            subst (λ (k : Joined). StartsWith (r.book p).journal (line_in k.lines p).seen × StartsWith (r.book p).journal (line_in k.found p).seen) same
            ((r.seen other w child p).0, (r.seen id v seat p).0)
        | no away ↦ old.seen t j (sym (kept_old Child r.joined t away) ∙ is) p
      ];
      unmade = old.unmade;
    }

    pub joins : Rule named bounds record { words = s.words; homes = s.homes; views = After }
    joins = let rank = r.ranks id v seat in record {
      book = r.book;
      made = r.made;
      joined = New;
      words = r.words;
      slots = r.slots;
      few_blocks = r.few_blocks;
      begun = r.begun;
      session = each (λ j u _ _ at. r.session j u at) (r.session id v seat);
      stands = λ q one most. lies_same named s s.words s.homes After q refl refl (r.book q).holder (r.book q).journal (r.book q).blocks (r.stands q one most);
      holders = λ p t held. seated t (not_child p t held) (r.holders p t held);
      notes = each (λ j u _ _ at. r.notes j u at) (λ q. joined_note v w q ∙ r.notes id v seat q);
      numbers = numbers;
      seen = each (λ j u _ _ at. r.seen j u at)
          (λ q. (
            subst (λ (l : List Entry). StartsWith (r.book q).journal l) (sym (joined_seen v w q))
                (starts_longer (r.book q).journal (seen_of v q) (seen_of w q) (r.seen id v seat q).0 (r.seen other w child q).0),
            joined_mine v w q ∙ (r.seen id v seat q).1,
          ));
      ranks = each
          (λ j u apart away at. let k = r.ranks j u at in (
            (λ e. absurd (others_differ s.views r.numbers id j v u seat at apart (e ∙ sym is_root))),
            k.1,
            k.2,
            kept_old Child r.joined u.number (λ e. others_differ s.views r.numbers other j w u child at away (sym e)) ∙ k.3,
          )) (
            (λ e. ((rank.0 e).0, ap (λ (js : List Joined). Child ∷ js) (rank.0 e).1)),
            (λ apart. absurd (apart is_root)),
            rank.2,
            kept_old Child r.joined v.number not_root ∙ rank.3,
          );
      roster = roster;
      drawn = r.drawn;
      next =
          let t = totals one_if_pending in let a : one_if_pending w ≡ 0 = ap₂ (λ (c d : Bool). cond c 0 (cond d 1 0)) child.1 calm in
          let n = r.next in omega arith;
      past = each (λ j u _ _ at. r.past j u at) past;
    }

module _ {X : Type 0} (named : X → Named) (bounds : Bounds) where
  pub joins_allowed : (id : ℕ) (v : View) (other : ℕ) (w : View) → v.spent ≡ false → v.number ≡ 0 → w.spent ≡ false → w.number ≢ 0 → ((p : ℕ) → note_of w p ≡ None) → w.pending ≡ false
      → Joins (Rule named bounds) id v other w (joined_by v w) nobody
  joins_allowed id v other w live is_root there apart free calm s r at ne after =
      joins named bounds s r id other v w (at, live) is_root ne (sym (set_else s.views id other (joined_by v w) ne) ∙ after, there) after free calm

  -- root learns that it and the joined seats have seen beginnings of one journal
  pub meets_allowed : (slots id : ℕ) (v : View) (c : List (ℕ × Option X)) (said : maybe.Option (Option X)) → v.spent ≡ false → v.number ≡ 0
      → Allows (Rule named bounds) slots id (v, c) 0 (λ n. n) (meets (step slots 0 0 0 said) (v, c))
  meets_allowed slots id v c said live is_root s r wide at small = (
    v,
    keeps,
    tt,
    subst (λ (ws : List ℕ). Rule named bounds record { words = ws; homes = s.homes; views = set s.views id v }) (sym (set-get_or s.words 0 0))
        (subst (λ (vs : List View). Rule named bounds record { words = s.words; homes = s.homes; views = vs }) (sym (set_again s.views id v at)) r),
    record {
      same = refl;
      one = λ t j is p. let both = r.roster.seen t j (ap (λ (js : List Joined). joined_as js t) (sym ((r.ranks id v (at, live)).0 is_root).1) ∙ is) p in
          ((r.book p).journal, both.0, both.1);
    },
  )

abbrev first_of : Entry → List Entry → Entry
first_of d [] = d
first_of d (x ∷ xs) = x

abbrev tail_of : List Entry → List Entry
tail_of [] = []
tail_of (x ∷ xs) = xs

shorter : (xs ys journal : List Entry) → StartsWith journal xs → StartsWith journal ys → length xs ≤ length ys → StartsWith ys xs
shorter [] ys journal a b h = (ys, refl)
shorter (x ∷ xs) [] journal a b h = absurd (omega arith)
shorter (x ∷ xs) (y ∷ ys) journal (more, is) (rest, was) h =
    let both : x ∷ (xs ++ more) ≡ y ∷ (ys ++ rest) = sym is ∙ was in
    let k = shorter xs ys (xs ++ more) (more, refl) (rest, ap tail_of both) (omega arith) in
    (k.0, λ i. sym (ap (first_of x) both) i ∷ k.1 i)

-- the longer of two beginnings of one journal begins with both
pub longer_begins : (xs ys journal : List Entry) → StartsWith journal xs → StartsWith journal ys → StartsWith (longer xs ys) xs × StartsWith (longer xs ys) ys
longer_begins xs ys journal a b = elim (nat_lt (length xs) (length ys)) as (λ c. nat_lt (length xs) (length ys) ≡ c → StartsWith (cond c ys xs) xs × StartsWith (cond c ys xs) ys) [
  | true ↦ λ e. (shorter xs ys journal a b (let h = ltb-true (length xs) (length ys) e in omega arith), starts_itself ys)
  | false ↦ λ e. (starts_itself xs, shorter ys xs journal b a (let h = ltb-false (length xs) (length ys) e in omega arith))
] refl

-- what root has seen after a join begins with what it had seen, and with what the seat had seen
pub joined_begins : (v w : View) (p : ℕ) (journal : List Entry) → StartsWith journal (seen_of w p) → StartsWith journal (seen_of v p)
    → StartsWith (seen_of (joined_by v w) p) (seen_of v p) × StartsWith (seen_of (joined_by v w) p) (seen_of w p)
joined_begins v w p journal child root =
    subst (λ (l : List Entry). StartsWith l (seen_of v p) × StartsWith l (seen_of w p)) (sym (joined_seen v w p)) (longer_begins (seen_of v p) (seen_of w p) journal root child)
