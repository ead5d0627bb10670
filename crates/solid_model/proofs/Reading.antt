-- A cyclic list of fins is read again from entities that are linked as it says.
use Rattle.std.proofs.Common.{◌≡◌, ◌≢◌, ℕ, zero, suc, ◌+◌, ◌<◌, ◌≤◌, ⊎_elim, true, false, not, cond, List, [], ◌∷◌, ◌++◌, length, drop, Option, Some, None, refl, sym, ap, subst, ◌∙◌, append_assoc, arith}
use Rattle.std.specs.Prelude.{T, map, is_some, IsSome, option_map, Contains}
use Rattle.std.specs.List.{AllByRecursion}
use Rattle.std.specs.Ordering.{eq_by_cmp}
use Rattle.std.specs.FinMap.{is_sorted}
use Rattle.std.specs.FinMap.Entries.{where_key, below_all, length_without, find-where_key, is_sorted-where_key}
use Rattle.std.specs.FinMap.Entries as entries
use Rattle.std.proofs.lemmas.List.Elements.{Contains-append_right}
use Rattle.pk_base.specs.Entity.{same_tag}
use Rattle.pk_base.specs.declared.tag.Tag.{Tag}
use Rattle.pk_base.specs.declared.entity.Entity.{Entity}
use Rattle.pk_model.specs.Apart.{NoRepeats}
use Rattle.pk_model.specs.Maps.{tag_cmp}
use Rattle.pk_model.proofs.TagLists.{tag_total, tag_antisymmetric, ties_no_other, same_from_tie}
use Rattle.solid_model.specs.Items.{Item, Shape, item_at}
use Rattle.solid_model.specs.Rings.{before, first_tag, next_in}
use Rattle.solid_model.specs.Shapes.{next_among, fins_until, fins_read}
use Rattle.list_facts.proofs.Elements.{not_in_nil, Contains-first, Contains-later, Contains-cases}
use Rattle.list_facts.proofs.Each.{ByRecursion-contains, ByRecursion-at}
use Rattle.solid_model.proofs.lists.Neighbours.{head_or, parts_at}
use Rattle.pk_base.proofs.Same.{same_itself, not_same}

-- ---- the neighbour in a list

pub next_in-parts : (f : Tag) (pre post : List Tag) → ¬ (Contains pre f) → next_in (pre ++ f ∷ post) f ≡ head_or f (post ++ pre)
next_in-parts f pre post h =
    let p = parts_at f pre post h in
    ap (λ (ts : List Tag). head_or f (drop 1 (ts ++ before f (pre ++ f ∷ post)))) p.1 ∙ ap (λ (ts : List Tag). head_or f (post ++ ts)) p.0

-- the first part does not have f
pub not_before : (f : Tag) (pre post : List Tag) → NoRepeats (pre ++ f ∷ post) → ¬ (Contains pre f)
not_before f [] post h k = not_in_nil f k
not_before f (t ∷ pre) post h k =
    ⊎_elim (λ (e : t ≡ f). ByRecursion-at (λ u. t ≢ u) (pre ++ f ∷ post) f h.0 (in_middle f pre post) e)
    (λ (r : Contains pre f). not_before f pre post h.1 r)
    (Contains-cases t pre f k)
  where
    in_middle : (f : Tag) (pre post : List Tag) → Contains (pre ++ f ∷ post) f
    in_middle f [] post = Contains-first f post
    in_middle f (t ∷ pre) post = Contains-later t (pre ++ f ∷ post) f (in_middle f pre post)

-- ---- from each fin to the next, until the first comes again

later_than_first : (f g : Tag) (pre post : List Tag) → NoRepeats (pre ++ f ∷ g ∷ post) → g ≢ head_or f pre
later_than_first f g [] post h e = h.0.0 (sym e)
later_than_first f g (t ∷ pre) post h e = ByRecursion-at (λ u. t ≢ u) (pre ++ f ∷ g ∷ post) g h.0 (in_tail f g pre post) (sym e)
  where
    in_tail : (f g : Tag) (pre post : List Tag) → Contains (pre ++ f ∷ g ∷ post) g
    in_tail f g [] post = Contains-later f (g ∷ post) g (Contains-first g post)
    in_tail f g (t ∷ pre) post = Contains-later t (pre ++ f ∷ g ∷ post) g (in_tail f g pre post)

head_pushed : (f g : Tag) (pre : List Tag) → head_or g (pre ++ f ∷ []) ≡ head_or f pre
head_pushed f g [] = refl
head_pushed f g (t ∷ pre) = refl

until_more : (n : ℕ) (es : List (Tag × Entity)) (first f g : Tag) (post : List Tag) → next_among es f ≡ g → same_tag g first ≡ false → fins_until n es first g ≡ post → fins_until (suc n) es first f ≡ f ∷ post
until_more n es first f g post e b h =
    (λ i. f ∷ elim (same_tag (e i) first) [ true ↦ [] | false ↦ fins_until n es first (e i) ])
    ∙ ap (λ c. f ∷ elim c [ true ↦ [] | false ↦ fins_until n es first g ]) b
    ∙ ap (λ ts. f ∷ ts) h

until_last : (n : ℕ) (es : List (Tag × Entity)) (first f : Tag) → next_among es f ≡ first → fins_until (suc n) es first f ≡ f ∷ []
until_last n es first f e =
    ap (λ c. f ∷ elim c [ true ↦ [] | false ↦ fins_until n es first (next_among es f) ]) (ap (λ t. same_tag t first) e ∙ same_itself first)

read_on : (n : ℕ) (es : List (Tag × Entity)) (first f : Tag) (whole pre post : List Tag)
    → whole ≡ pre ++ f ∷ post → NoRepeats whole → head_or f pre ≡ first → length post < n
    → ((g : Tag) → Contains whole g → next_among es g ≡ next_in whole g)
    → fins_until n es first f ≡ f ∷ post
read_on zero es first f whole pre post is once head fits next = absurd (omega arith)
read_on (suc n) es first f whole pre [] is once head fits next =
    until_last n es first f (next f (subst (λ ts. Contains ts f) (sym is) (Contains-append_right pre (f ∷ []) f (Contains-first f [])))
    ∙ ap (λ ts. next_in ts f) is ∙ next_in-parts f pre [] (not_before f pre [] (subst NoRepeats is once)) ∙ head)
read_on (suc n) es first f whole pre (g ∷ post) is once head fits next =
    until_more n es first f g (g ∷ post)
    (next f (subst (λ ts. Contains ts f) (sym is) (Contains-append_right pre (f ∷ g ∷ post) f (Contains-first f (g ∷ post))))
    ∙ ap (λ ts. next_in ts f) is ∙ next_in-parts f pre (g ∷ post) (not_before f pre (g ∷ post) (subst NoRepeats is once)))
    (not_same g first (λ e. later_than_first f g pre post (subst NoRepeats is once) (e ∙ sym head)))
    (read_on n es first g whole (pre ++ f ∷ []) post (is ∙ sym (append_assoc pre (f ∷ []) (g ∷ post))) once (head_pushed f g pre ∙ head) (omega arith) next)

-- a loop's list, where each of its fins is followed in the entities as in the list
pub list-read : (n : ℕ) (es : List (Tag × Entity)) (fins : List Tag) → length es ≡ n → NoRepeats fins → length fins ≤ n
    → ((g : Tag) → Contains fins g → next_among es g ≡ next_in fins g)
    → fins_read es (first_tag fins) ≡ fins
list-read n es [] e once fits next = refl
list-read n es (f ∷ fins) e once fits next = read_on (length es) es f f (f ∷ fins) [] fins refl once refl (omega arith) next

-- ---- what is found

pub find-map : {A B : Type 0} (g : Tag → A → B) (t : Tag) (xs : List (Tag × A)) → entries.find tag_cmp t (map (λ x. (x.0, g x.0 x.1)) xs) ≡ option_map (g t) (entries.find tag_cmp t xs)
find-map g t [] = refl
find-map g t (x ∷ xs) = elim (eq_by_cmp tag_cmp t x.0) as (λ b. eq_by_cmp tag_cmp t x.0 ≡ b → cond b (Some (g x.0 x.1)) (entries.find tag_cmp t (map (λ y. (y.0, g y.0 y.1)) xs)) ≡ option_map (g t) (cond b (Some x.1) (entries.find tag_cmp t xs))) [
  | true ↦ λ h. ap (λ u. Some (g u x.1)) (sym (same_from_tie t x.0 h))
  | false ↦ λ h. find-map g t xs
] refl

pub mapped-was : {A B : Type 0} (g : A → B) (o : Option A) → IsSome (option_map g o) → IsSome o
mapped-was g None h = absurd (cc)
mapped-was g (Some x) h = refl

pub mapped-live : {A B : Type 0} (g : A → B) (o : Option A) → IsSome o → IsSome (option_map g o)
mapped-live g None h = absurd (cc)
mapped-live g (Some x) h = refl

-- ---- no more fins than items

without-finds : (t u : Tag) (S : Shape) → t ≢ u → IsSome (item_at S u) → IsSome (item_at (where_key tag_cmp (λ x. not (eq_by_cmp tag_cmp t x)) S) u)
without-finds t u S other h =
    subst (λ (o : Option Item). IsSome o)
    (sym (find-where_key tag_cmp (λ x. not (eq_by_cmp tag_cmp t x)) u (λ x e. ap (λ y. not (eq_by_cmp tag_cmp t y)) (sym (tag_antisymmetric u x e))) S
    ∙ ap (λ b. cond (not b) (item_at S u) None) (ties_no_other t u other))) h

pub no_more_than_items : (ts : List Tag) (S : Shape) → T (is_sorted tag_cmp S) → NoRepeats ts → AllByRecursion (λ t. IsSome (item_at S t)) ts → length ts ≤ length S
no_more_than_items [] S sorted once live = omega arith
no_more_than_items (t ∷ ts) S sorted once live =
    let rest = where_key tag_cmp (λ x. not (eq_by_cmp tag_cmp t x)) S in
    let less : cond (is_some (item_at S t)) 1 0 + length rest ≡ length S = length_without tag_cmp tag_total t S sorted in
    let one : cond {A = ℕ} (is_some (item_at S t)) 1 0 ≡ 1 = ap (λ b. cond b 1 0) live.0 in
    let fewer : length ts ≤ length rest = no_more_than_items ts rest (is_sorted-where_key tag_cmp (λ x. not (eq_by_cmp tag_cmp t x)) S sorted) once.1
    (ByRecursion-contains _ ts (λ u k. without-finds t u S (ByRecursion-at (λ v. t ≢ v) ts u once.0 k) (ByRecursion-at (λ v. IsSome (item_at S v)) ts u live.1 k))) in
    omega arith
