-- What each of the tags of a lamina and of a sweep names: so no other faces and loops are new.
use Rattle.std.proofs.Common.{◌≡◌, ℕ, zero, suc, ◌+◌, ◌-◌, ◌*◌, ◌/◌, ◌%◌, ◌<◌, ◌≤◌, ⊎_elim, Bool, true, false, List, [], ◌∷◌, length, take, Option, Some, refl, sym, ap, subst, ◌∙◌, arith}
use Rattle.std.specs.Prelude.{Contains}
use Rattle.std.proofs.lemmas.Bool.{true≢false}
use Rattle.pk_base.specs.declared.tag.Tag.{Tag}
use Rattle.pk_model.specs.Tags.{tag_at}
use Rattle.solid_model.specs.Items.{Item, Shape, item_at}
use Rattle.solid_model.specs.Items.Item.{Body, Shell, Face, Loop, Fin, Edge, Vertex, Attr}
use Rattle.list_facts.proofs.Elements.{not_in_nil, Contains-cases}
use Rattle.solid_forms.specs.LaminaForm.{corner_place, LaminaParts}
use Rattle.solid_forms.specs.SweepForm.{SweepParts, new_vertex}
use Rattle.solid_forms.proofs.InOrder.{or_more}

-- ---- neither a face nor a loop

abbrev pub is_bone : Item → Bool
is_bone (Body shell) = true
is_bone (Shell body q) = true
is_bone (Face shell outer) = false
is_bone (Loop face fins vertex) = false
is_bone (Fin mate edge vertex) = true
is_bone (Edge body) = true
is_bone (Vertex body point) = true
is_bone (Attr owner name value) = true

pub record Bone (R : Shape) (t : Tag) : Type 0 where
  pub item : Item
  pub is : item_at R t ≡ Some item
  pub bone : is_bone item ≡ true

pub bone-no_loop : (R : Shape) (t g : Tag) (fins : List Tag) (vertex : Option Tag) → Bone R t → item_at R t ≡ Some (Loop g fins vertex) → ⊥
bone-no_loop R t g fins vertex b is =
    let same : b.item ≡ Loop g fins vertex = some_same b.item (Loop g fins vertex) (sym b.is ∙ is) in
    true≢false (sym b.bone ∙ ap is_bone same)
  where
    some_same : (x y : Item) → Some x ≡ Some y → x ≡ y
    some_same x y h = cc

pub bone-no_face : (R : Shape) (t shell outer : Tag) → Bone R t → item_at R t ≡ Some (Face shell outer) → ⊥
bone-no_face R t shell outer b is =
    let same : b.item ≡ Face shell outer = some_same b.item (Face shell outer) (sym b.is ∙ is) in
    true≢false (sym b.bone ∙ ap is_bone same)
  where
    some_same : (x y : Item) → Some x ≡ Some y → x ≡ y
    some_same x y h = cc

-- a tag that is taken has its place
pub taken-place : (k : ℕ) (ts : List Tag) (t : Tag) → Contains (take k ts) t → (i : ℕ) × (i < k) × (tag_at ts i ≡ t)
taken-place zero ts t h = absurd (not_in_nil t h)
taken-place (suc k) [] t h = absurd (not_in_nil t h)
taken-place (suc k) (u ∷ us) t h = ⊎_elim {C = (i : ℕ) × (i < suc k) × (tag_at (u ∷ us) i ≡ t)}
    (λ (e : u ≡ t). (0, omega arith, e))
    (λ (r : Contains (take k us) t). let x = taken-place k us t r in let less = x.1 in (suc x.0, omega (arith, less), x.2))
    (Contains-cases u (take k us) t h)

bone-at : (R : Shape) (tags : List Tag) (i k : ℕ) → i ≡ k → Bone R (tag_at tags i) → Bone R (tag_at tags k)
bone-at R tags i k e b = subst (λ j. Bone R (tag_at tags j)) e b

-- ---- a lamina

pub data LaminaPlace (R : Shape) (tags : List Tag) (n k : ℕ) : Type 0 where
  OfBone : Bone R (tag_at tags k) → LaminaPlace R tags n k
  OfLower : k ≡ 2 → LaminaPlace R tags n k
  OfLowerLoop : k ≡ 3 → LaminaPlace R tags n k
  OfUpper : k ≡ 4 * n + 1 → LaminaPlace R tags n k
  OfUpperLoop : k ≡ 4 * n + 2 → LaminaPlace R tags n k

module _ (R : Shape) (tags : List Tag) (n : ℕ) (parts : LaminaParts R tags n) (vertices : (i : ℕ) → i < n → Bone R (tag_at tags (corner_place i))) where
  path_bone : (i r j : ℕ) → i + 1 < n → r < 4 → 4 * i + 5 + r ≡ j → Bone R (tag_at tags j)
  path_bone i zero j less small e = bone-at R tags (4 * i + 5) j (omega (arith, e)) (vertices (suc i) (omega (arith, less)))
  path_bone i (suc zero) j less small e = bone-at R tags (4 * i + 6) j (omega (arith, e)) (record { item = _; is = parts.edges i less; bone = refl })
  path_bone i (suc (suc zero)) j less small e = bone-at R tags (4 * i + 7) j (omega (arith, e)) (record { item = _; is = parts.outs i less; bone = refl })
  path_bone i (suc (suc (suc zero))) j less small e = bone-at R tags (4 * i + 8) j (omega (arith, e)) (record { item = _; is = parts.backs i less; bone = refl })
  path_bone i (suc (suc (suc (suc r)))) j less small e = absurd (omega (arith, small))

  first_place : (k : ℕ) → 1 ≤ n → k < 5 → LaminaPlace R tags n k
  first_place zero some small = OfBone (record { item = _; is = parts.body; bone = refl })
  first_place (suc zero) some small = OfBone (record { item = _; is = parts.shell; bone = refl })
  first_place (suc (suc zero)) some small = OfLower refl
  first_place (suc (suc (suc zero))) some small = OfLowerLoop refl
  first_place (suc (suc (suc (suc zero)))) some small = OfBone (vertices 0 (omega (arith, some)))
  first_place (suc (suc (suc (suc (suc k))))) some small = absurd (omega (arith, small))

  last_place : (s k : ℕ) → s < 5 → 4 * n + 1 + s ≡ k → LaminaPlace R tags n k
  last_place zero k small e = OfUpper (omega (arith, e))
  last_place (suc zero) k small e = OfUpperLoop (omega (arith, e))
  last_place (suc (suc zero)) k small e = OfBone (bone-at R tags (4 * n + 3) k (omega (arith, e)) (record { item = _; is = parts.last_edge; bone = refl }))
  last_place (suc (suc (suc zero))) k small e = OfBone (bone-at R tags (4 * n + 4) k (omega (arith, e)) (record { item = _; is = parts.x; bone = refl }))
  last_place (suc (suc (suc (suc zero)))) k small e = OfBone (bone-at R tags (4 * n + 5) k (omega (arith, e)) (record { item = _; is = parts.y; bone = refl }))
  last_place (suc (suc (suc (suc (suc s))))) k small e = absurd (omega (arith, small))

  pub lamina-place : (k : ℕ) → 1 ≤ n → k < 4 * n + 6 → LaminaPlace R tags n k
  lamina-place k some below = ⊎_elim
      (λ (l : k < 5). first_place k some l)
      (λ (r : 5 ≤ k). ⊎_elim
      (λ (l : k < 4 * n + 1).
      let i = (k - 5) / 4 in
      let s = (k - 5) % 4 in
      OfBone (path_bone i s k (omega (arith, r, l)) (omega arith) (omega (arith, r))))
      (λ (m : 4 * n + 1 ≤ k). last_place (k - (4 * n + 1)) k (omega (arith, below, m)) (omega (arith, m)))
      (or_more k (4 * n + 1)))
      (or_more k 5)

-- ---- a sweep

pub data SweepPlace (R : Shape) (tags : List Tag) (n k : ℕ) : Type 0 where
  AtBone : Bone R (tag_at tags k) → SweepPlace R tags n k
  AtSide : (j : ℕ) → j < n → k ≡ 4 * n + 5 * j → SweepPlace R tags n k
  AtSideLoop : (j : ℕ) → j < n → k ≡ 4 * n + 5 * j + 1 → SweepPlace R tags n k

module _ (S R : Shape) (tags : List Tag) (b : Tag) (fins : List Tag) (parts : SweepParts S R tags b fins) (vertices : (i : ℕ) → i < length fins → Bone R (new_vertex tags i)) where
  edge_bone : (i r j : ℕ) → i < length fins → r < 4 → 4 * i + r ≡ j → Bone R (tag_at tags j)
  edge_bone i zero j less small e = bone-at R tags (4 * i) j (omega (arith, e)) (vertices i less)
  edge_bone i (suc zero) j less small e = bone-at R tags (4 * i + 1) j (omega (arith, e)) (record { item = _; is = parts.edges i less; bone = refl })
  edge_bone i (suc (suc zero)) j less small e = bone-at R tags (4 * i + 2) j (omega (arith, e)) (record { item = _; is = parts.outs i less; bone = refl })
  edge_bone i (suc (suc (suc zero))) j less small e = bone-at R tags (4 * i + 3) j (omega (arith, e)) (record { item = _; is = parts.backs i less; bone = refl })
  edge_bone i (suc (suc (suc (suc r)))) j less small e = absurd (omega (arith, small))

  side_place : (i r k : ℕ) → i < length fins → r < 5 → 4 * length fins + 5 * i + r ≡ k → SweepPlace R tags (length fins) k
  side_place i zero k less small e = AtSide i less (omega (arith, e))
  side_place i (suc zero) k less small e = AtSideLoop i less (sym e)
  side_place i (suc (suc zero)) k less small e = AtBone (bone-at R tags (4 * length fins + 5 * i + 2) k e (record { item = _; is = parts.upper i less; bone = refl }))
  side_place i (suc (suc (suc zero))) k less small e = AtBone (bone-at R tags (4 * length fins + 5 * i + 3) k e (record { item = _; is = parts.xs i less; bone = refl }))
  side_place i (suc (suc (suc (suc zero)))) k less small e = AtBone (bone-at R tags (4 * length fins + 5 * i + 4) k e (record { item = _; is = parts.ys i less; bone = refl }))
  side_place i (suc (suc (suc (suc (suc r))))) k less small e = absurd (omega (arith, small))

  pub sweep-place : (k : ℕ) → k < 9 * length fins → SweepPlace R tags (length fins) k
  sweep-place k below = ⊎_elim
      (λ (l : k < 4 * length fins). AtBone (edge_bone (k / 4) (k % 4) k (omega (arith, l)) (omega arith) (omega arith)))
      (λ (r : 4 * length fins ≤ k).
      let j = k - 4 * length fins in
      side_place (j / 5) (j % 5) k (omega (arith, below, r)) (omega arith) (omega (arith, r)))
      (or_more k (4 * length fins))
