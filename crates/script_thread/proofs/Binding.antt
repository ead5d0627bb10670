-- The walk puts the newest binding first, and the run keeps each name once: both name the same tags.
use Rattle.std.proofs.Common.{◌≡◌, ℕ, ◌+◌, Bool, true, false, cond, List, [], ◌∷◌, Option, None, Some, Result, Ok, Err, refl, sym, ap, ap₂, subst, ◌∙◌}
use Rattle.std.specs.Prelude.{find, not, option_map, slice_get}
use Rattle.std.specs.Option.{option_and_then, option_map_or}
use Rattle.std.specs.Result.{result_unwrap_or}
use Rattle.pk_base.specs.Entity.{same_name}
use Rattle.pk_base.specs.declared.tag.Tag.{Tag}
use Rattle.pk_base.specs.declared.entity.Name.{Name}
use Rattle.pk_base.specs.declared.act.Act.{Act}
use Rattle.pk_base.specs.declared.act.Reply.{Reply}
use Rattle.pk_base.specs.declared.refusal.Refusal.{Refusal}
use Rattle.pk_base.specs.declared.refusal.Refusal.TheVariants as refusal
use Rattle.pk_base.proofs.Same.{same_name-Decides}
use Rattle.pk_command.specs.Operands.{act_on}
use Rattle.pk_model.specs.Replay.{AnsweredEntry}
use Rattle.script_text.specs.Walk.{Walker, act_with_tags, bind_name, bound_to, is_held, is_partition, list_of, onto_tags, refusal_if, refusal_of_operands, refusal_of_order, tag_of_operand, tags_of_operands, ◌or_else◌}
use Rattle.script_text.specs.declared.script.Order.{Order}
use Rattle.script_text.specs.declared.script.Order.TheVariants.{Lock, Unlock, End, On}
use Rattle.script_text.specs.declared.script.Operand.{Operand}
use Rattle.script_text.specs.declared.script.Operand.TheVariants.{Digits, Named}
use Rattle.script_thread.specs.Thread.{bind_tags, names_after}
use Rattle.script_thread.specs.Walked.{Names, SameNames}

-- ---- one binding more

-- two names that are told to be the same are
same_is : (a b : Name) → same_name a b ≡ true → a ≡ b
same_is a b h = (same_name-Decides a b).0 h

-- what a name is bound to where this binding comes first
abbrev first_bound : Name × List Tag → Name → Option (List Tag) → Option (List Tag)
first_bound b name rest = cond (same_name b.0 name) (Some b.1) rest

bound_to-cons : (b : Name × List Tag) (bs : Names) (name : Name) → bound_to (b ∷ bs) name ≡ first_bound b name (bound_to bs name)
bound_to-cons b bs name = elim (same_name b.0 name) as (λ (t : Bool). option_map (λ (c : Name × List Tag). c.1) (cond t (Some b) (find (λ (c : Name × List Tag). same_name c.0 name) bs)) ≡ cond t (Some b.1) (bound_to bs name)) [ true ↦ refl | false ↦ refl ]

-- the first binding hides a later one of the same name
hides : (b : Name × List Tag) (name q : Name) (tags : List Tag) (rest : Option (List Tag)) → same_name name b.0 ≡ true → first_bound (b.0, tags) q rest ≡ first_bound (name, tags) q (first_bound b q rest)
hides b name q tags rest h =
    subst (λ x. first_bound (b.0, tags) q rest ≡ first_bound (x, tags) q (first_bound b q rest)) (sym (same_is name b.0 h))
    (elim (same_name b.0 q) as (λ (t : Bool). cond t (Some tags) rest ≡ cond t (Some tags) (cond t (Some b.1) rest)) [ true ↦ refl | false ↦ refl ])

-- bindings of two names may change places
swaps : (b : Name × List Tag) (name q : Name) (tags : List Tag) (rest : Option (List Tag)) → same_name name b.0 ≡ false → first_bound b q (first_bound (name, tags) q rest) ≡ first_bound (name, tags) q (first_bound b q rest)
swaps b name q tags rest h =
    elim (same_name b.0 q) as (λ (t : Bool). same_name b.0 q ≡ t → cond t (Some b.1) (first_bound (name, tags) q rest) ≡ first_bound (name, tags) q (cond t (Some b.1) rest)) [
      | true ↦ λ is. subst (λ x. Some b.1 ≡ cond x (Some tags) (Some b.1)) (sym (subst (λ x. same_name name x ≡ false) (same_is b.0 q is) h)) refl
      | false ↦ λ is. refl
    ] refl

-- A name that is bound in its place is bound as by the newest binding.
bind_tags-bound : (names : Names) (name : Name) (tags : List Tag) → SameNames ((name, tags) ∷ names) (bind_tags names name tags)
bind_tags-bound [] name tags q = refl
bind_tags-bound (b ∷ bs) name tags q =
    elim (same_name name b.0) as (λ (t : Bool). same_name name b.0 ≡ t → bound_to ((name, tags) ∷ b ∷ bs) q ≡ bound_to (cond t ((b.0, tags) ∷ bs) (b ∷ bind_tags bs name tags)) q) [
      | true ↦ λ is. newest ∙ sym (hides b name q tags (bound_to bs q) is) ∙ sym (bound_to-cons (b.0, tags) bs q)
      | false ↦ λ is.
          newest
          ∙ sym (swaps b name q tags (bound_to bs q) is)
          ∙ ap (first_bound b q) (sym (bound_to-cons (name, tags) bs q) ∙ bind_tags-bound bs name tags q)
          ∙ sym (bound_to-cons b (bind_tags bs name tags) q)
    ] refl
  where
    newest : bound_to ((name, tags) ∷ b ∷ bs) q ≡ first_bound (name, tags) q (first_bound b q (bound_to bs q))
    newest = bound_to-cons (name, tags) (b ∷ bs) q ∙ ap (first_bound (name, tags) q) (bound_to-cons b bs q)

-- the same binding more
cons_same : (xs ys : Names) (b : Name × List Tag) → SameNames xs ys → SameNames (b ∷ xs) (b ∷ ys)
cons_same xs ys b h q = bound_to-cons b xs q ∙ ap (first_bound b q) (h q) ∙ sym (bound_to-cons b ys q)

list_bound : (xs ys : Names) (name : Name) (o : Option (List Tag)) → SameNames xs ys → SameNames (option_map_or (λ tags. (name, tags) ∷ xs) o xs) (option_map_or (bind_tags ys name) o ys)
list_bound xs ys name None h = h
list_bound xs ys name (Some tags) h = λ q. cons_same xs ys (name, tags) h q ∙ bind_tags-bound ys name tags q

-- after an answer they name the same tags again
pub bind_same : (xs ys : Names) (bind : Option Name) (answer : Result Reply Refusal) → SameNames xs ys → SameNames (bind_name bind answer xs) (names_after answer bind ys)
bind_same xs ys None (Ok r) h = h
bind_same xs ys None (Err e) h = h
bind_same xs ys (Some name) (Ok r) h = list_bound xs ys name (list_of r) h
bind_same xs ys (Some name) (Err e) h = h

-- ---- what is resolved

tag_same : (xs ys : Names) → SameNames xs ys → (o : Operand) → tag_of_operand xs o ≡ tag_of_operand ys o
tag_same xs ys h (Digits t) = refl
tag_same xs ys h (Named name at) = ap (option_and_then (λ tags. slice_get tags at)) (h name)

pub tags_same : (xs ys : Names) → SameNames xs ys → (i : ℕ) (os : List Operand) → tags_of_operands xs i os ≡ tags_of_operands ys i os
tags_same xs ys h i [] = refl
tags_same xs ys h i (o ∷ os) = ap₂ (onto_tags i) (tag_same xs ys h o) (tags_same xs ys h (i + 1) os)

-- two walkers that hold the same, and whose names name the same, are turned away alike
pub refusal_same : (n : ℕ) (held : List ℕ) (xs ys : Names) (left more : List (List AnsweredEntry)) → SameNames xs ys → (o : Order) → refusal_of_order n (record { held = held; names = xs; left = left }) o ≡ refusal_of_order n (record { held = held; names = ys; left = more }) o
refusal_same n held xs ys left more h (Lock p) = refl
refusal_same n held xs ys left more h (Unlock p) = refl
refusal_same n held xs ys left more h End = refl
refusal_same n held xs ys left more h (On p a operands bind) =
    ap (λ r. refusal_of_operands r or_else refusal_if (not (is_partition n p)) (refusal.NoPartition p) or_else refusal_if (not (is_held held p)) (refusal.NotLocked p)) (tags_same xs ys h 1 operands)

-- and take an act with the same tags
pub act_same : (v w : Walker) → SameNames v.names w.names → (a : Act) (operands : List Operand) → act_with_tags v a operands ≡ act_with_tags w a operands
act_same v w h a operands = ap (λ r. act_on a (result_unwrap_or r [])) (tags_same v.names w.names h 1 operands)
