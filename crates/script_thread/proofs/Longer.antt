-- A walk over lists of entries is the same walk over longer ones, and two walks join.
use Rattle.std.proofs.Common.{◌≡◌, ℕ, zero, suc, ◌-◌, ◌<◌, ◌≤◌, ⊎_elim, List, [], ◌∷◌, ◌++◌, append-nil, length, get_or, Option, None, Some, Result, refl, sym, ap, subst, ◌∙◌, arith}
use Rattle.std.specs.Prelude.{MatchOption, slice_set}
use Rattle.std.proofs.lemmas.Bool.{cases_lt}
use Rattle.std.proofs.lemmas.List.{get_or_past}
use Rattle.pk_base.specs.declared.entity.Name.{Name}
use Rattle.pk_base.specs.declared.act.Act.{Act}
use Rattle.pk_base.specs.declared.act.Entry.{Entry}
use Rattle.pk_base.specs.declared.act.Entry.TheVariants.{Claimed, Drew, Did, Spent, Released}
use Rattle.pk_base.specs.declared.act.Reply.{Reply}
use Rattle.pk_base.specs.declared.refusal.Refusal.{Refusal}
use Rattle.pk_model.specs.Modelling.{Modelling}
use Rattle.pk_model.specs.Step.{short}
use Rattle.pk_model.specs.Replay.{AnsweredEntry}
use Rattle.script_text.specs.Walk.{Walker, Walks, OrderSays, OrderTakes, ActSays, ActTakes, TakesEntry, Releases, IsTurnedAway, act_with_tags, bind_name, left_at, refusal_of_order}
use Rattle.script_text.specs.declared.script.ScriptLine.{ScriptLine}
use Rattle.script_text.specs.declared.script.Order.{Order}
use Rattle.script_text.specs.declared.script.Order.TheVariants.{Lock, Unlock, End, On}
use Rattle.script_text.specs.declared.report.Line.{Line}
use Rattle.script_text.specs.declared.report.LineSaid.{LineSaid}

-- ---- longer lists

-- the lists, each with its list of more behind it
abbrev pub behind : {X : Type 0} → List (List X) → List (List X) → List (List X)
behind [] more = []
behind (l ∷ ls) [] = l ∷ ls
behind (l ∷ ls) (m ∷ ms) = (l ++ m) ∷ behind ls ms

-- each list is followed by its list of more
pub get_or-behind : {X : Type 0} (ls more : List (List X)) (i : ℕ) → i < length ls → get_or (behind ls more) i [] ≡ get_or ls i [] ++ get_or more i []
get_or-behind [] more i h = absurd (omega arith)
get_or-behind (l ∷ ls) [] i h = sym (append-nil (get_or (l ∷ ls) i []))
get_or-behind (l ∷ ls) (m ∷ ms) zero h = refl
get_or-behind (l ∷ ls) (m ∷ ms) (suc i) h = get_or-behind ls ms i (omega arith)

-- a list is replaced before more stands behind it, or after
pub behind-set : {X : Type 0} (ls more : List (List X)) (i : ℕ) (r : List X) → behind (slice_set ls i r) more ≡ slice_set (behind ls more) i (r ++ get_or more i [])
behind-set [] more i r = refl
behind-set (l ∷ ls) [] zero r = ap (λ x. x ∷ ls) (sym (append-nil r))
behind-set (l ∷ ls) [] (suc i) r = ap (λ x. l ∷ slice_set ls i x) (sym (append-nil r))
behind-set (l ∷ ls) (m ∷ ms) zero r = refl
behind-set (l ∷ ls) (m ∷ ms) (suc i) r = ap (λ x. (l ++ m) ∷ x) (behind-set ls ms i r)

pub length-behind : {X : Type 0} (ls more : List (List X)) → length (behind ls more) ≡ length ls
length-behind [] more = refl
length-behind (l ∷ ls) [] = refl
length-behind (l ∷ ls) (m ∷ ms) = ap suc (length-behind ls ms)

-- where a list has an item, it is one of the lists
within : {X : Type 0} (ls : List (List X)) (i : ℕ) → (get_or ls i [] ≡ [] → ⊥) → i < length ls
within ls i some = ⊎_elim (λ (l : i < length ls). l) (λ (g : length ls ≤ i). absurd (some (get_or_past ls i [] g))) (cases_lt i (length ls))

-- the walker, with more entries behind those that are left
abbrev pub longer : Walker → List (List AnsweredEntry) → Walker
longer w more = record w { left = behind w.left more }

-- ---- one line

-- what is taken from the front is taken from the front of more
pub takes_longer : (w : Walker) (p : ℕ) (e : Entry) (mid : Walker) (more : List (List AnsweredEntry)) → TakesEntry w p e mid → TakesEntry (longer w more) p e (longer mid more)
takes_longer w p e mid more h =
    let m = get_or more (p - 1) [] in
    let in' = within w.left (p - 1) (λ none. let next = h.next in cc) in
    record {
      first = h.first;
      rest = h.rest ++ m;
      next = get_or-behind w.left more (p - 1) in' ∙ ap (λ l. l ++ m) h.next;
      entry = h.entry;
      after = ap (λ (x : Walker). longer x more) h.after ∙ (λ i. record w { left = behind-set w.left more (p - 1) h.rest i });
    }

-- what an act takes of entries, by the first of them
abbrev pub Takes : Modelling → ℕ → Act → AnsweredEntry → List AnsweredEntry → Result Reply Refusal → List AnsweredEntry → Type 0 → Entry → Type 0
Takes K t a x xs answer rest more (Claimed u) = ⊥
Takes K t a x xs answer rest more (Drew u b) = (u ≡ t) × ((0 < short K x.before a) × more)
Takes K t a x xs answer rest more (Did u b) = (x.entry ≡ Did t a) × ((x.answer ≡ Some answer) × (xs ≡ rest))
Takes K t a x xs answer rest more (Spent u next b) = (x.entry ≡ Spent t next a) × ((x.answer ≡ Some answer) × (xs ≡ rest))
Takes K t a x xs answer rest more (Released u) = ⊥

first_longer : (K : Modelling) (t : ℕ) (a : Act) (x : AnsweredEntry) (xs : List AnsweredEntry) (answer : Result Reply Refusal) (rest more : List AnsweredEntry) (A B : Type 0) → (A → B) → (e : Entry) → Takes K t a x xs answer rest A e → Takes K t a x (xs ++ more) answer (rest ++ more) B e
first_longer K t a x xs answer rest more A B f (Claimed u) h = h
first_longer K t a x xs answer rest more A B f (Drew u b) h = (h.0, (h.1.0, f h.1.1))
first_longer K t a x xs answer rest more A B f (Did u b) h = (h.0, (h.1.0, ap (λ l. l ++ more) h.1.1))
first_longer K t a x xs answer rest more A B f (Spent u next b) h = (h.0, (h.1.0, ap (λ l. l ++ more) h.1.1))
first_longer K t a x xs answer rest more A B f (Released u) h = h

pub act_takes_longer : (K : Modelling) (t : ℕ) (a : Act) (xs : List AnsweredEntry) (answer : Result Reply Refusal) (rest more : List AnsweredEntry) → ActTakes K t a xs answer rest → ActTakes K t a (xs ++ more) answer (rest ++ more)
act_takes_longer K t a [] answer rest more h = absurd h
act_takes_longer K t a (x ∷ xs) answer rest more h =
    first_longer K t a x xs answer rest more (ActTakes K t a xs answer rest) (ActTakes K t a (xs ++ more) answer (rest ++ more)) (act_takes_longer K t a xs answer rest more) x.entry h

pub releases_longer : (t : ℕ) (w : Walker) (ps : List ℕ) (after : Walker) (more : List (List AnsweredEntry)) → Releases t w ps after → Releases t (longer w more) ps (longer after more)
releases_longer t w [] after more h = ap (λ (x : Walker). longer x more) h
releases_longer t w (p ∷ ps) after more h = (longer h.0 more, (takes_longer w p (Released t) h.0 more h.1.0, releases_longer t h.0 ps after more h.1.1))

module _ (K : Modelling) (n t : ℕ) (more : List (List AnsweredEntry)) where
  abbrev with_more : Walker → Walker
  with_more w = longer w more

  act_says_longer : (w : Walker) (p : ℕ) (a : Act) (bind : Option Name) (said : LineSaid) (after : Walker) → ActSays K t w p a bind said after → ActSays K t (with_more w) p a bind said (with_more after)
  act_says_longer w p a bind said after h =
      let m = get_or more (p - 1) [] in
      let none : get_or w.left (p - 1) [] ≡ [] → ⊥ = λ e. subst (λ l. ActTakes K t a l h.answer h.rest) e h.taken in
      let in' = within w.left (p - 1) none in
      record {
        answer = h.answer;
        rest = h.rest ++ m;
        taken = subst (λ l. ActTakes K t a l h.answer (h.rest ++ m)) (sym (get_or-behind w.left more (p - 1) in')) (act_takes_longer K t a (left_at w p) h.answer h.rest m h.taken);
        tells = h.tells;
        goes_on = ap with_more h.goes_on ∙ (λ i. record w { names = bind_name bind h.answer w.names; left = behind-set w.left more (p - 1) h.rest i });
      }

  -- the names and what is held decide whether an order is turned away
  refusal_longer : (w : Walker) (o : Order) → refusal_of_order n (with_more w) o ≡ refusal_of_order n w o
  refusal_longer w (Lock p) = refl
  refusal_longer w (Unlock p) = refl
  refusal_longer w End = refl
  refusal_longer w (On p a operands bind) = refl

  order_takes_longer : (w : Walker) (o : Order) (said : LineSaid) (after : Walker) → OrderTakes K t w o said after → OrderTakes K t (with_more w) o said (with_more after)
  order_takes_longer w (Lock p) said after h = (with_more h.0, (takes_longer w p _ h.0 more h.1.0, h.1.1, ap with_more h.1.2))
  order_takes_longer w (Unlock p) said after h = (with_more h.0, (takes_longer w p _ h.0 more h.1.0, h.1.1, ap with_more h.1.2))
  order_takes_longer w End said after h = (with_more h.0, (releases_longer t w w.held h.0 more h.1.0, h.1.1, ap with_more h.1.2))
  order_takes_longer w (On p a operands bind) said after h = act_says_longer w p (act_with_tags w a operands) bind said after h

  -- what an order says of the longer lists, where it is turned away so or not
  abbrev longer_says : Walker → Order → LineSaid → Walker → Option Refusal → Type 0
  longer_says w o said after r = MatchOption r (OrderTakes K t (with_more w) o said (with_more after)) (λ e. IsTurnedAway (with_more w) e said (with_more after))

  order_longer_by : (w : Walker) (o : Order) (said : LineSaid) (after : Walker) (r : Option Refusal) → MatchOption r (OrderTakes K t w o said after) (λ e. IsTurnedAway w e said after) → longer_says w o said after r
  order_longer_by w o said after None h = order_takes_longer w o said after h
  order_longer_by w o said after (Some e) h = (h.0, ap with_more h.1)

  pub order_longer : (w : Walker) (o : Order) (said : LineSaid) (after : Walker) → OrderSays K n t w o said after → OrderSays K n t (with_more w) o said (with_more after)
  order_longer w o said after h = subst (longer_says w o said after) (sym (refusal_longer w o)) (order_longer_by w o said after (refusal_of_order n w o) h)

  -- ---- walks

  -- The walk is the same with more entries behind each list, which it leaves.
  pub walks_longer : (w : Walker) (lines : List ScriptLine) (said : List Line) (after : Walker) → Walks K n t w lines said after → Walks K n t (with_more w) lines said (with_more after)
  walks_longer w [] [] after h = ap with_more h
  walks_longer w (line ∷ lines) (told ∷ said) after h = (h.0, (with_more h.1.0, (order_longer w line.order told.said h.1.0 h.1.1.0, walks_longer h.1.0 lines said after h.1.1.1)))
  walks_longer w [] (told ∷ said) after h = h
  walks_longer w (line ∷ lines) [] after h = h

-- A walk of the first lines, and one of the next from where it came to, are a walk of both.
pub walks_join : (K : Modelling) (n t : ℕ) (w mid after : Walker) (lines : List ScriptLine) (said : List Line) (next : List ScriptLine) (more : List Line) → Walks K n t w lines said mid → Walks K n t mid next more after → Walks K n t w (lines ++ next) (said ++ more) after
walks_join K n t w mid after [] [] next more h k = subst (λ (x : Walker). Walks K n t x next more after) h k
walks_join K n t w mid after (line ∷ lines) (told ∷ said) next more h k = (h.0, (h.1.0, (h.1.1.0, walks_join K n t h.1.0 mid after lines said next more h.1.1.1 k)))
walks_join K n t w mid after [] (told ∷ said) next more h k = absurd h
walks_join K n t w mid after (line ∷ lines) [] next more h k = absurd h
