-- A walk, line by line: what makes it, and what it must be.
use Rattle.std.proofs.Common.{◌≡◌, ℕ, List, [], ◌∷◌, drop, Option, None, Some, option_map, Result, refl, sym, ap, subst, ◌∙◌}
use Rattle.std.specs.Prelude.{slice_get, MatchOption}
use Rattle.std.specs.Option.{option_and_then}
use Rattle.std.proofs.lemmas.Option.{same_Some}
use Rattle.pk_base.specs.declared.entity.Name.{Name}
use Rattle.pk_base.specs.declared.act.Act.{Act}
use Rattle.pk_base.specs.declared.act.Entry.{Entry}
use Rattle.pk_base.specs.declared.act.Entry.TheVariants.{Claimed, Did, Released}
use Rattle.pk_base.specs.declared.act.Reply.{Reply}
use Rattle.pk_base.specs.declared.refusal.Refusal.{Refusal}
use Rattle.pk_model.specs.Modelling.{Modelling}
use Rattle.pk_model.specs.Replay.{AnsweredEntry}
use Rattle.script_text.specs.Walk.{Walker, Walks, OrderTakes, OrderSays, TakesEntry, ActTakes, ActSays, Releases, refusal_of_order, act_with_tags, left_at, with_left, with_held, without_held, bind_name, said_of, IsTurnedAway}
use Rattle.script_text.specs.declared.script.ScriptLine.{ScriptLine}
use Rattle.script_text.specs.declared.script.Order.{Order}
use Rattle.script_text.specs.declared.script.Order.TheVariants.{Lock, Unlock, End, On}
use Rattle.script_text.specs.declared.script.Operand.{Operand}
use Rattle.script_text.specs.declared.report.Line.{Line}
use Rattle.script_text.specs.declared.report.LineSaid.{LineSaid}
use Rattle.script_text.specs.declared.report.LineSaid.TheVariants.{Locked, Unlocked, Ended, Refused}
use Rattle.pk_laws.specs.WorkedReports.{line, told_at}

-- The lines are walked, and are told this.
pub record Walked (K : Modelling) (n t : ℕ) (w : Walker) (lines : List ScriptLine) (said : List Line) (after : Walker) : Type 0 where
  pub walks : Walks K n t w lines said after

-- the next entry of a list of told ones, and what it answers
abbrev pub next_entry : List AnsweredEntry → Option Entry
next_entry told = option_map (λ (x : AnsweredEntry). x.entry) (slice_get told 0)

abbrev pub next_answer : List AnsweredEntry → Option (Result Reply Refusal)
next_answer told = option_and_then (λ (x : AnsweredEntry). x.answer) (slice_get told 0)

-- the thread after it took this many entries of partition p
abbrev pub past : Walker → ℕ → ℕ → Walker
past w p i = with_left w p (drop i (left_at w p))

abbrev pub locked : Walker → ℕ → Walker
locked w p = record (past w p 1) { held = with_held p w.held }

abbrev pub unlocked : Walker → ℕ → Walker
unlocked w p = record (past w p 1) { held = without_held p w.held }

-- the thread after an act that took this many entries and answered this
abbrev pub acted : Walker → ℕ → ℕ → Option Name → Result Reply Refusal → Walker
acted w p i bind answer = record (past w p i) { names = bind_name bind answer w.names }

-- the thread after it released these partitions
abbrev pub let_go : Walker → List ℕ → Walker
let_go w [] = w
let_go w (p ∷ ps) = let_go (past w p 1) ps

-- in each of these partitions the next entry is its release
abbrev pub MayLetGo : ℕ → Walker → List ℕ → Type 0
MayLetGo t w [] = Unit {0}
MayLetGo t w (p ∷ ps) = (next_entry (left_at w p) ≡ Some (Released t)) × MayLetGo t (past w p 1) ps

-- ---- what makes a walk

takes_by : (w : Walker) (p : ℕ) (e : Entry) (told : List AnsweredEntry) → left_at w p ≡ told → next_entry told ≡ Some e → TakesEntry w p e (with_left w p (drop 1 told))
takes_by w p e [] is h = absurd (cc)
takes_by w p e (x ∷ xs) is h = record { first = x; rest = xs; next = is; entry = same_Some x.entry e h; after = refl }

takes : (w : Walker) (p : ℕ) (e : Entry) → next_entry (left_at w p) ≡ Some e → TakesEntry w p e (past w p 1)
takes w p e h = takes_by w p e (left_at w p) refl h

releases : (t : ℕ) (w : Walker) (ps : List ℕ) → MayLetGo t w ps → Releases t w ps (let_go w ps)
releases t w [] h = refl
releases t w (p ∷ ps) h = (past w p 1, (takes w p (Released t) h.0, releases t (past w p 1) ps h.1))

-- an order that is not turned away
goes_on : (K : Modelling) (n t : ℕ) (w : Walker) (o : Order) (said : LineSaid) (mid : Walker) → refusal_of_order n w o ≡ None → OrderTakes K t w o said mid → OrderSays K n t w o said mid
goes_on K n t w o said mid none h = subst (λ (r : Option Refusal). MatchOption r (OrderTakes K t w o said mid) (λ e. IsTurnedAway w e said mid)) (sym none) h

pub done : {K : Modelling} {n t : ℕ} {w : Walker} → Walked K n t w [] [] w
done = record { walks = refl }

pub locks : {K : Modelling} {n t : ℕ} {w : Walker} {k p : ℕ} {lines : List ScriptLine} {more : List Line} {after : Walker} → refusal_of_order n w (Lock p) ≡ None → next_entry (left_at w p) ≡ Some (Claimed t) → Walked K n t (locked w p) lines more after → Walked K n t w (line k (Lock p) ∷ lines) (told_at k Locked ∷ more) after
locks {K = K} {n = n} {t = t} {w = w} {p = p} none h rest = record {
  walks = (refl, (locked w p, (goes_on K n t w (Lock p) Locked (locked w p) none (past w p 1, (takes w p (Claimed t) h, refl, refl)), rest.walks)));
}

pub unlocks : {K : Modelling} {n t : ℕ} {w : Walker} {k p : ℕ} {lines : List ScriptLine} {more : List Line} {after : Walker} → refusal_of_order n w (Unlock p) ≡ None → next_entry (left_at w p) ≡ Some (Released t) → Walked K n t (unlocked w p) lines more after → Walked K n t w (line k (Unlock p) ∷ lines) (told_at k Unlocked ∷ more) after
unlocks {K = K} {n = n} {t = t} {w = w} {p = p} none h rest = record {
  walks = (refl, (unlocked w p, (goes_on K n t w (Unlock p) Unlocked (unlocked w p) none (past w p 1, (takes w p (Released t) h, refl, refl)), rest.walks)));
}

pub ends : {K : Modelling} {n t : ℕ} {w : Walker} {k : ℕ} {held : List ℕ} {lines : List ScriptLine} {more : List Line} {after : Walker} → w.held ≡ held → MayLetGo t w held → Walked K n t (record (let_go w held) { held = [] }) lines more after → Walked K n t w (line k End ∷ lines) (told_at k (Ended held) ∷ more) after
ends {K = K} {n = n} {t = t} {w = w} {held = held} is h rest = record {
  walks = (refl, (record (let_go w held) { held = [] }, ((let_go w held, (subst (λ ps. Releases t w ps (let_go w held)) (sym is) (releases t w held h), ap Ended (sym is), refl)), rest.walks)));
}

-- an act of partition p that takes the next i entries
pub does : {K : Modelling} {n t : ℕ} {w : Walker} {k p : ℕ} {a : Act} {operands : List Operand} {bind : Option Name} {said : LineSaid} {lines : List ScriptLine} {more : List Line} {after : Walker} → (i : ℕ) (answer : Result Reply Refusal) → refusal_of_order n w (On p a operands bind) ≡ None → ActTakes K t (act_with_tags w a operands) (left_at w p) answer (drop i (left_at w p)) → said ≡ said_of answer → Walked K n t (acted w p i bind answer) lines more after → Walked K n t w (line k (On p a operands bind) ∷ lines) (told_at k said ∷ more) after
does {K = K} {n = n} {t = t} {w = w} {p = p} {a = a} {operands = operands} {bind = bind} {said = said} i answer none taken tells rest = record {
  walks = (refl, (acted w p i bind answer, (goes_on K n t w (On p a operands bind) said (acted w p i bind answer) none (record { answer = answer; rest = drop i (left_at w p); taken = taken; tells = tells; goes_on = refl }), rest.walks)));
}

-- an order that is turned away
pub refuses : {K : Modelling} {n t : ℕ} {w : Walker} {k : ℕ} {o : Order} {r : Refusal} {lines : List ScriptLine} {more : List Line} {after : Walker} → refusal_of_order n w o ≡ Some r → Walked K n t w lines more after → Walked K n t w (line k o ∷ lines) (told_at k (Refused r) ∷ more) after
refuses {K = K} {n = n} {t = t} {w = w} {o = o} {r = r} away rest = record {
  walks = (refl, (w, (subst (λ (e : Option Refusal). MatchOption e (OrderTakes K t w o (Refused r) w) (λ x. IsTurnedAway w x (Refused r) w)) (sym away) (refl, refl), rest.walks)));
}

-- ---- what a walk must be

went_on : (K : Modelling) (n t : ℕ) (w : Walker) (o : Order) (said : LineSaid) (mid : Walker) → refusal_of_order n w o ≡ None → OrderSays K n t w o said mid → OrderTakes K t w o said mid
went_on K n t w o said mid none h = subst (λ (r : Option Refusal). MatchOption r (OrderTakes K t w o said mid) (λ e. IsTurnedAway w e said mid)) none h

-- the entry that is taken is the next one
taken : (w : Walker) (p : ℕ) (e : Entry) (mid : Walker) → TakesEntry w p e mid → (next_entry (left_at w p) ≡ Some e) × (mid ≡ past w p 1)
taken w p e mid h = (
  ap next_entry h.next ∙ ap Some h.entry,
  h.after ∙ ap (λ l. with_left w p (drop 1 l)) (sym h.next),
)

-- what follows a lock
pub after_lock : {K : Modelling} {n t : ℕ} {w : Walker} {k p : ℕ} {told : Line} {lines : List ScriptLine} {more : List Line} {after : Walker} → refusal_of_order n w (Lock p) ≡ None → Walked K n t w (line k (Lock p) ∷ lines) (told ∷ more) after → Walked K n t (locked w p) lines more after
after_lock {K = K} {n = n} {t = t} {w = w} {p = p} {told = told} {lines = lines} {more = more} {after = after} none h =
    let rest = h.walks.1 in
    let lock = went_on K n t w (Lock p) told.said rest.0 none rest.1.0 in
    let mid = (taken w p (Claimed t) lock.0 lock.1.0).1 in
    let same : rest.0 ≡ locked w p = lock.1.2 ∙ ap (λ (m : Walker). record m { held = with_held p m.held }) mid in
    record { walks = subst (λ m. Walks K n t m lines more after) same rest.1.1 }

-- the act of a line says what the entries that it takes answer
pub act_says : {K : Modelling} {n t : ℕ} {w : Walker} {k p : ℕ} {a : Act} {operands : List Operand} {bind : Option Name} {told : Line} {lines : List ScriptLine} {more : List Line} {after : Walker} → refusal_of_order n w (On p a operands bind) ≡ None → Walked K n t w (line k (On p a operands bind) ∷ lines) (told ∷ more) after → (mid : Walker) × ActSays K t w p (act_with_tags w a operands) bind told.said mid
act_says {K = K} {n = n} {t = t} {w = w} {p = p} {a = a} {operands = operands} {bind = bind} {told = told} none h =
    let rest = h.walks.1 in
    (rest.0, went_on K n t w (On p a operands bind) told.said rest.0 none rest.1.0)

-- where the next entry did an act, it is this act, and gives the answer
pub act_did : (K : Modelling) (t u : ℕ) (a b : Act) (told : List AnsweredEntry) (answer : Result Reply Refusal) (rest : List AnsweredEntry) → next_entry told ≡ Some (Did u b) → ActTakes K t a told answer rest → (Did u b ≡ Did t a) × (next_answer told ≡ Some answer)
act_did K t u a b [] answer rest is h = absurd h
act_did K t u a b (x ∷ xs) answer rest is h =
    let e : x.entry ≡ Did u b = same_Some x.entry (Did u b) is in
    by_entry x.entry e refl h
  where
    by_entry : (y : Entry) → y ≡ Did u b → x.entry ≡ y → ActTakes K t a (x ∷ xs) answer rest → (Did u b ≡ Did t a) × (x.answer ≡ Some answer)
    by_entry y e f g =
        let k : ActTakes K t a (record x { entry = Did u b } ∷ xs) answer rest = subst (λ (z : Entry). ActTakes K t a (record x { entry = z } ∷ xs) answer rest) (f ∙ e) g in
        (sym (f ∙ e) ∙ (f ∙ e) ∙ k.0, k.1.0)

-- the end releases what is held, in this order
pub end_releases : {K : Modelling} {n t : ℕ} {w : Walker} {k p : ℕ} {ps : List ℕ} {told : Line} {lines : List ScriptLine} {more : List Line} {after : Walker} → w.held ≡ p ∷ ps → Walked K n t w (line k End ∷ lines) (told ∷ more) after → next_entry (left_at w p) ≡ Some (Released t)
end_releases {t = t} {w = w} {p = p} {ps = ps} is h =
    let end = h.walks.1.1.0 in
    let let_go = subst (λ l. Releases t w l end.0) is end.1.0 in
    (taken w p (Released t) let_go.0 let_go.1.0).0
