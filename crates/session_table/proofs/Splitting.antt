-- A split keeps the rule.
use Rattle.std.proofs.Common.{◌≡◌, ◌≢◌, ◌⊎◌, ℕ, zero, suc, ◌+◌, ◌<◌, ◌≤◌, true, false, cond, ap, sym, refl, subst, ◌∙◌, inl, inr, ⊎_elim, arith, List, [], ◌∷◌, ◌++◌, map, length, set}
use mathlib.Core.Option.{some-injective, some-ne-none}
use mathlib.Core.Option as maybe
use native.Mathlib.Decide.{dec_le}
use lib.ListN.{get_elem?}
use Rattle.std.specs.Prelude.{◌==◌, Option, Some, None, IsSome}
use Rattle.atomic_table.specs.Table.{State, Splits}
use Rattle.atomic_table.proofs.Lists.{at_longer, at_last}
use Rattle.session_table.specs.declared.view.Bounds.{Bounds}
use Rattle.session_table.specs.declared.view.Joined.{Joined}
use Rattle.session_table.specs.declared.view.Line.{Line}
use Rattle.session_table.specs.declared.view.Note.{Note}
use Rattle.session_table.specs.declared.view.View.{View}
use Rattle.session_table.specs.Entries.{StartsWith}
use Rattle.session_table.specs.Named.{Named}
use Rattle.session_table.specs.Seats.{line_in, seen_of, mine_of, note_of, joined_as}
use Rattle.session_table.specs.Steps.{made_one, only_seen, newcomer}
use Rattle.session_table.specs.Rule.{IsSeat, EachSeat, IsSeated, Stand, note_for, HaveNumbers, Roster, one_if_seat, one_if_pending, Rule}
use Rattle.session_table.proofs.Seating.{seat_set, seated_set, numbers_set, others_differ, counted_set, total-set, total-snoc}
use Rattle.std.proofs.lemmas.Option.{none-some}
use Rattle.session_table.proofs.Book.{note_else, lies_same}

at_end : (l : List View) (b u : View) (j : ℕ) → get_elem? (l ++ b ∷ []) j ≡ maybe.some u → (get_elem? l j ≡ maybe.some u) ⊎ ((j ≡ length l) × (b ≡ u))
at_end [] b u zero e = inr (refl, some-injective b u e)
at_end [] b u (suc j) e = absurd (some-ne-none u (sym e))
at_end (x ∷ xs) b u zero e = inl e
at_end (x ∷ xs) b u (suc j) e = ⊎_elim (λ h. inl h) (λ h. inr (let g = h.0 in omega arith, h.1)) (at_end xs b u j e)

-- a seat afterwards is one of before, or the new one
seat_end : (l : List View) (b u : View) (j : ℕ) → IsSeat (l ++ b ∷ []) j u → IsSeat l j u ⊎ ((j ≡ length l) × (b ≡ u))
seat_end l b u j (at, live) = ⊎_elim (λ h. inl (h, live)) (λ h. inr h) (at_end l b u j at)

each_end : {P : View → Type 0} (l : List View) (b : View) → EachSeat l P → P b → EachSeat (l ++ b ∷ []) P
each_end {P} l b others own j u seat = ⊎_elim (λ h. others j u h) (λ h. subst P h.1 own) (seat_end l b u j seat)

seated_end : (l : List View) (b : View) (t : ℕ) → IsSeated l t → IsSeated (l ++ b ∷ []) t
seated_end l b t (j, u, at, is) = (j, u, (at_longer l (b ∷ []) j u at.0, at.1), is)

lines_seen : (ls : List Line) (q : ℕ) → line_in (map only_seen ls) q ≡ only_seen (line_in ls q)
lines_seen [] q = refl
lines_seen (l ∷ ls) q = elim (l.partition == q) as (λ b. cond b (only_seen l) (line_in (map only_seen ls) q) ≡ only_seen (cond b l (line_in ls q))) [
  | true ↦ refl
  | false ↦ lines_seen ls q
]

pub new_seen : (v : View) (q : ℕ) → seen_of (newcomer v) q ≡ seen_of v q
new_seen v q = ap (λ (l : Line). l.seen) (lines_seen v.lines q)

pub new_mine : (v : View) (q : ℕ) → mine_of (newcomer v) q ≡ []
new_mine v q = ap (λ (l : Line). l.mine) (lines_seen v.lines q)

pub new_notes : (v : View) (q : ℕ) → note_of (newcomer v) q ≡ None
new_notes v q = ap (λ (l : Line). l.note) (lines_seen v.lines q)

-- no joined seat has a number that was not made
pub not_joined : (book : ℕ → Stand) (made : ℕ) (joined : List Joined) (views : List View) → Roster book made joined views → (s : ℕ) → made < s → joined_as joined s ≡ None
not_joined book made joined views r s above = elim (joined_as joined s) as (λ o. joined_as joined s ≡ o → o ≡ None) [
  | None ↦ λ e. refl
  | Some j ↦ λ e. absurd (let h = r.numbered s (subst IsSome (sym e) refl) in let k = h.1 in omega arith)
] refl

module _ {X : Type 0} (named : X → Named) (bounds : Bounds) (s : State (Option X) View) (r : Rule named bounds s) (id : ℕ) (v : View) where
  abbrev Left : List View
  Left = set s.views id (made_one v)

  abbrev Views : List View
  Views = Left ++ newcomer v ∷ []

  module _ (seat : IsSeat s.views id v) (is_root : v.number ≡ 0) where
    is_made : v.made ≡ r.made
    is_made = ((r.ranks id v seat).0 is_root).0

    seated : (t : ℕ) → IsSeated s.views t → IsSeated Views t
    seated t is = seated_end Left (newcomer v) t (seated_set s.views id v (made_one v) seat seat.1 refl t is)

    new_seated : IsSeated Views (r.made + 1)
    new_seated = (length Left, newcomer v, (at_last Left (newcomer v) (length Left) refl, refl), (let e = is_made in omega arith))

    each : {P : View → Type 0} → ((j : ℕ) (u : View) → j ≢ id → IsSeat s.views j u → P u) → P (made_one v) → P (newcomer v) → EachSeat Views P
    each {P} others left right = each_end {P = P} Left (newcomer v)
        (λ j u is. ⊎_elim (λ h. subst P h.1 left) (λ h. others j u h.0 h.1) (seat_set s.views id j (made_one v) u is)) right

    few_left : (j : ℕ) (u : View) → IsSeat Left j u → u.number ≤ r.made
    few_left j u is = ⊎_elim
        (λ h. subst (λ (n : ℕ). n ≤ r.made) (ap (λ (x : View). x.number) h.1) (r.ranks id v seat).2)
        (λ h. (r.ranks j u h.1).2) (seat_set s.views id j (made_one v) u is)

    numbers : HaveNumbers Views
    numbers i j a b one two e =
        let old = numbers_set s.views r.numbers id v (made_one v) seat refl in let made = is_made in
        let fresh = λ (x : View) (is : newcomer v ≡ x). ap (λ (y : View). y.number) (sym is) in
        ⊎_elim
        (λ h. ⊎_elim (λ g. old i j a b h g e)
        (λ g. absurd (let k = few_left i a h in let n : b.number ≡ v.made + 1 = fresh b g.1 in omega arith))
        (seat_end Left (newcomer v) b j two))
        (λ h. ⊎_elim (λ g. absurd (let k = few_left j b g in let n : a.number ≡ v.made + 1 = fresh a h.1 in omega arith))
        (λ g. h.0 ∙ sym g.0) (seat_end Left (newcomer v) b j two))
        (seat_end Left (newcomer v) a i one)

    new_note : (o : Option ℕ) (note : Note) → ((t : ℕ) → o ≡ Some t → IsSeated s.views t) → note_for o note (v.made + 1) ≡ None
    new_note None note who = refl
    new_note (Some t) note who = note_else note t (v.made + 1)
        (λ e. let q = who t refl in let k = (r.ranks q.0 q.1 q.2).2 in let n = q.3 in let m = is_made in omega arith)

    roster : v.made < 65534 → Roster r.book (r.made + 1) r.joined Views
    roster room = let old = r.roster in let made = is_made in record {
      root = seated 0 old.root;
      present = λ t one most. elim (dec_le t r.made) as (λ _. IsSeated Views t ⊎ IsSome (joined_as r.joined t)) [
        | yes le ↦ ⊎_elim (λ h. inl (seated t h)) (λ h. inr h) (old.present t one le)
        | no gt ↦ inl (subst (λ (n : ℕ). IsSeated Views n) (let n : r.made + 1 ≡ t = omega arith in n) new_seated)
      ];
      counted =
          let a = total-snoc one_if_seat Left (newcomer v) in let b = counted_set s.views id v (made_one v) seat seat.1 in
          let c = old.counted in omega arith;
      few = omega arith;
      apart = old.apart;
      numbered = λ t is. let h = old.numbered t is in (h.0, omega (arith, h.1));
      kept = old.kept;
      seen = old.seen;
      unmade = λ t above. old.unmade t (omega arith);
    }

    pub splits : v.made < 65534 → Rule named bounds record { words = s.words; homes = s.homes; views = Views }
    splits room = let made = is_made in let rank = r.ranks id v seat in record {
      book = r.book;
      made = r.made + 1;
      joined = r.joined;
      words = r.words;
      slots = r.slots;
      few_blocks = r.few_blocks;
      begun = r.begun;
      session = each (λ j u _ at. r.session j u at) (r.session id v seat) (r.session id v seat);
      stands = λ q one most. lies_same named s s.words s.homes Views q refl refl (r.book q).holder (r.book q).journal (r.book q).blocks (r.stands q one most);
      holders = λ p t held. seated t (r.holders p t held);
      notes = each (λ j u _ at. r.notes j u at) (r.notes id v seat)
          (λ q. ap (λ (l : Line). l.note) (lines_seen v.lines q) ∙ sym (new_note (r.book q).holder (record { journal = (r.book q).journal; blocks = (r.book q).blocks }) (r.holders q)));
      numbers = numbers;
      seen = each (λ j u _ at. r.seen j u at) (r.seen id v seat)
          (λ q. (
            subst (λ (l : Line). StartsWith (r.book q).journal l.seen) (sym (lines_seen v.lines q)) (r.seen id v seat q).0,
            ap (λ (l : Line). l.mine) (lines_seen v.lines q) ∙ sym (r.roster.unmade (v.made + 1) (omega arith) q),
          ));
      ranks = each
          (λ j u ne at. let k = r.ranks j u at in (
            (λ e. absurd (others_differ s.views r.numbers id j v u seat at ne (e ∙ sym is_root))),
            k.1,
            omega (arith, k.2),
            k.3,
          )) (
            (λ e. (ap (λ (n : ℕ). n + 1) made, (rank.0 is_root).1)),
            (λ ne. absurd (ne is_root)),
            omega (arith, rank.2),
            rank.3,
          ) (
            (λ e. absurd (omega arith)),
            (λ _. (refl, refl)),
            omega arith,
            not_joined r.book r.made r.joined s.views r.roster (v.made + 1) (omega arith),
          );
      roster = roster room;
      drawn = r.drawn;
      next =
          let a = total-snoc one_if_pending Left (newcomer v) in let b = total-set one_if_pending s.views id v (made_one v) seat.0 in
          let n = r.next in omega arith;
      past = each (λ j u _ at. r.past j u at) (r.past id v seat) (λ m is. absurd (none-some m is));
    }

module _ {X : Type 0} (named : X → Named) (bounds : Bounds) where
  pub splits_allowed : (id : ℕ) (v : View) → v.spent ≡ false → v.number ≡ 0 → v.made < 65534 → Splits (Rule named bounds) id v (made_one v) (newcomer v)
  splits_allowed id v live is_root room s r at = splits named bounds s r id v (at, live) is_root room
