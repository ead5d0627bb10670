-- What one row of a fold leaves: a new edge to a new vertex, and a face that is cut off.
use Rattle.std.proofs.Common.{◌≡◌, ◌≢◌, ℕ, ◌+◌, ◌<◌, ◌≤◌, true, false, not, List, [], ◌∷◌, ◌++◌, length, drop, Option, Some, None, Ok, refl, sym, ap, ◌∙◌, arith}
use Rattle.std.specs.Prelude.{ℤ, Contains, unwrap_or}
use Rattle.std.specs.Option.{option_and_then, option_map_or}
use Rattle.std.specs.List.{AllByRecursion}
use Rattle.std.proofs.lemmas.List.{get_or-drop}
use Rattle.pk_base.specs.Blocks.{tag}
use Rattle.pk_base.specs.Entity.{same_tag}
use Rattle.pk_base.specs.declared.tag.Tag.{Tag}
use Rattle.pk_base.specs.declared.entity.Triple.{Triple}
use Rattle.pk_base.specs.declared.refusal.Refusal.TheVariants.{NotOneLoop, SameVertex}
use Rattle.pk_model.specs.Apart.{NoRepeats}
use Rattle.pk_model.specs.Tags.{TagsAscend, tag_at}
use Rattle.pk_model.specs.Step.{◌>>=◌}
use Rattle.solid_model.specs.Items.{Item, Shape, item_at, ◌with◌}
use Rattle.solid_model.specs.Items.Item.{Body, Shell, Face, Loop, Fin, Edge, Vertex}
use Rattle.solid_model.specs.Rings.{before, from, written_from, ring_of}
use Rattle.solid_model.specs.Owners.{fins_of, owner_of_item, owner_or_itself, owner_in, body_of}
use Rattle.solid_model.specs.Rows.{Row, refuse_where, ◌>>◌}
use Rattle.solid_model.specs.Rows.Effect.{Makes}
use Rattle.solid_model.specs.Places.{End, end_in, end_of_item, end_at, PlacedFin, as_fin, fin_at, fins_at, asked}
use Rattle.solid_model.specs.Ranges.{is_coordinate, numbers_of, point_of, refuse_outside}
use Rattle.solid_model.specs.Folds.{Progress, after_row}
use Rattle.solid_model.specs.Mev.{mev}
use Rattle.solid_model.specs.Mef.{mef}
use Rattle.list_facts.proofs.Each.{ByRecursion-contains}
use Rattle.pk_base.proofs.Same.{same_itself, not_same}
use Rattle.solid_model.proofs.lists.Neighbours.{parts_at}
use Rattle.solid_model.proofs.Reading.{not_before}
use Rattle.solid_sound.proofs.shapes.Lookups.{Items, tags_in, with-other, with-written}
use Rattle.solid_sound.proofs.shapes.Reading.{loop-of_fin}
use Rattle.solid_sound.proofs.rows.RowKeeps.{IsWell}
use Rattle.solid_sound.proofs.rows.Asked.{free_at, apart_at}
use Rattle.solid_sound.proofs.rows.Progress.{start}

-- ---- what stands there

abbrev pub Stand : Shape → Items → Type 0
Stand R xs = AllByRecursion (λ x. item_at R x.0 ≡ Some x.1) xs

pub stand-written : (S : Shape) (xs : Items) → NoRepeats (tags_in xs) → Stand (S with xs) xs
stand-written S xs once = ByRecursion-contains (λ x. item_at (S with xs) x.0 ≡ Some x.1) xs (λ x k. with-written S xs x.0 x.1 once k)

-- tags that are left
pub at-left : (tags left : List Tag) (k r j : ℕ) → left ≡ drop k tags → k + r ≡ j → tag_at left r ≡ tag_at tags j
at-left tags left k r j e h = ap (λ ts. tag_at ts r) e ∙ get_or-drop k tags r (tag 0) ∙ ap (tag_at tags) h

-- a face, its shell, and their body
pub record Home (S : Shape) (face shell b : Tag) : Type 0 where
  pub outer : Tag
  pub q : ℤ
  pub face_is : item_at S face ≡ Some (Face shell outer)
  pub shell_is : item_at S shell ≡ Some (Shell b q)
  pub body_is : item_at S b ≡ Some (Body shell)

owner_by : (S : Shape) (t u : Tag) (x : Item) → item_at S t ≡ Some x → owner_of_item S t x ≡ Some u → owner_or_itself S t ≡ u
owner_by S t u x is owner = ap (λ (o : Option Item). unwrap_or (option_and_then (owner_of_item S t) o) t) is ∙ ap (λ o. unwrap_or o t) owner

module _ (S : Shape) (face shell b : Tag) (home : Home S face shell b) (l : Tag) (list : List Tag) (lone : Option Tag) (loop_is : item_at S l ≡ Some (Loop face list lone)) where
  pub home-body : body_of S l ≡ b
  home-body =
      let up = owner_or_itself S in
      let one = owner_by S l face (Loop face list lone) loop_is refl in
      let two = owner_by S face shell (Face shell home.outer) home.face_is refl in
      let three = owner_by S shell b (Shell b home.q) home.shell_is refl in
      let four : up b ≡ b = ap (λ (o : Option Item). unwrap_or (option_and_then (owner_of_item S b) o) b) home.body_is in
      ap (λ t. up (up (up (up t)))) one ∙ ap (λ t. up (up (up t))) two ∙ ap (λ t. up (up t)) three ∙ ap up four ∙ four

  pub home-face : owner_in S l ≡ face
  home-face = ap (λ (o : Option Item). unwrap_or (option_and_then (owner_of_item S l) o) (tag 0)) loop_is

  pub home-shell : owner_in S (owner_in S l) ≡ shell
  home-shell = ap (owner_in S) home-face ∙ ap (λ (o : Option Item). unwrap_or (option_and_then (owner_of_item S face) o) (tag 0)) home.face_is

  pub home-fins : fins_at S l ≡ list
  home-fins = ap (λ (o : Option Item). option_map_or fins_of o []) loop_is

-- ---- a new edge to a new vertex

abbrev pub Four : Type 0
Four = Tag × Tag × Tag × Tag

abbrev pub four_of : List Tag → Four
four_of ts = (tag_at ts 0, tag_at ts 1, tag_at ts 2, tag_at ts 3)

-- The edge leads from the vertex u to a new vertex at the point; fins are those of the loop l, from its end on.
abbrev pub edge_items : Tag → Tag → Tag → Tag → Triple → List Tag → Four → Items
edge_items b face l u at fins g =
    (g.0, Vertex b (point_of at)) ∷
    (g.1, Edge b) ∷
    (g.2, Fin g.3 g.1 u) ∷
    (g.3, Fin g.2 g.1 g.0) ∷
    (l, ring_of face (g.2 ∷ g.3 ∷ fins)) ∷ []

abbrev edge_row : Shape → Triple → End → Row
edge_row S at u = refuse_outside is_coordinate (numbers_of at)
    >> Ok (Makes 4 (λ ts. S with edge_items u.body u.face u.loop_ u.vertex at u.fins (four_of ts)))

mev-is : (S : Shape) (t : Tag) (at : Triple) (u : End) → end_at S t ≡ Ok u → refuse_outside is_coordinate (numbers_of at) ≡ None
    → mev S t at ≡ Ok (Makes 4 (λ ts. S with edge_items u.body u.face u.loop_ u.vertex at u.fins (four_of ts)))
mev-is S t at u e none =
    ap (λ r. r >>= edge_row S at) e
    ∙ ap (λ o. o >> Ok (Makes 4 (λ ts. S with edge_items u.body u.face u.loop_ u.vertex at u.fins (four_of ts)))) none

-- S is the shape so far, and ts are the tags that are left.
module _ (S : Shape) (well : IsWell S) (ts : List Tag) where
  abbrev pub with_items : Items → List Tag → Progress
  with_items xs left = record { shape = S with xs; tags = left }

  -- from the lone vertex of a loop
  pub edge-lone : (l face shell b v : Tag) (at : Triple) → item_at S l ≡ Some (Loop face [] (Some v)) → Home S face shell b → refuse_outside is_coordinate (numbers_of at) ≡ None
      → after_row (mev S l at) (start S ts) ≡ with_items (edge_items b face l v at [] (four_of ts)) (drop 4 ts)
  edge-lone l face shell b v at is home none =
      ap (λ r. after_row r (start S ts)) (mev-is S l at (end_in S v l []) (ap (end_of_item S l) is) none)
      ∙ (λ i. with_items (edge_items (home-body S face shell b home l [] (Some v) is i) (home-face S face shell b home l [] (Some v) is i) l v at [] (four_of ts)) (drop 4 ts))

  -- from where a fin of a loop starts
  pub edge-fin : (t mate edge v l face shell b : Tag) (list : List Tag) (lone : Option Tag) (at : Triple) → item_at S t ≡ Some (Fin mate edge v) → item_at S l ≡ Some (Loop face list lone) → Contains list t
      → Home S face shell b → refuse_outside is_coordinate (numbers_of at) ≡ None
      → after_row (mev S t at) (start S ts) ≡ with_items (edge_items b face l v at (written_from t list) (four_of ts)) (drop 4 ts)
  edge-fin t mate edge v l face shell b list lone at fin_is is among home none =
      let owner : owner_in S t ≡ l = loop-of_fin S well.written well.sound l face list lone is t among in
      let end_is : end_at S t ≡ Ok (end_in S v l (written_from t list)) = ap (end_of_item S t) fin_is
      ∙ (λ i. Ok (end_in S v (owner i) (written_from t (fins_at S (owner i)))))
      ∙ ap (λ fs. Ok (end_in S v l (written_from t fs))) (home-fins S face shell b home l list lone is) in
      ap (λ r. after_row r (start S ts)) (mev-is S t at (end_in S v l (written_from t list)) end_is none)
      ∙ (λ i. with_items (edge_items (home-body S face shell b home l list lone is i) (home-face S face shell b home l list lone is i) l v at (written_from t list) (four_of ts)) (drop 4 ts))

-- ---- an edge between two fins of one loop

abbrev pub Five : Type 0
Five = Tag × Tag × Tag × Tag × Tag

abbrev pub five_of : List Tag → Five
five_of ts = (tag_at ts 0, tag_at ts 1, tag_at ts 2, tag_at ts 3, tag_at ts 4)

-- The edge cuts the fins `fresh`, which lead from the vertex u to v, off the loop l; the others are the rest.
abbrev pub cut_items : Tag → Tag → Tag → Tag → Tag → Tag → List Tag → List Tag → Five → Items
cut_items b shell face l u v fresh rest g =
    (g.0, Face shell g.1) ∷
    (g.1, ring_of g.0 (fresh ++ g.3 ∷ [])) ∷
    (g.2, Edge b) ∷
    (g.3, Fin g.4 g.2 v) ∷
    (g.4, Fin g.3 g.2 u) ∷
    (l, ring_of face (rest ++ g.4 ∷ [])) ∷ []

abbrev cut_of : Tag → PlacedFin → PlacedFin → Five → Items
cut_of h u v g = cut_items u.body u.shell u.face u.loop_ u.vertex v.vertex (before h u.fins) (from h u.fins) g

abbrev cut_row : Shape → Tag → PlacedFin → PlacedFin → Row
cut_row S h u v =
    refuse_where (not (same_tag u.loop_ v.loop_)) (NotOneLoop u.loop_ v.loop_)
    >> refuse_where (same_tag u.vertex v.vertex) (SameVertex u.vertex)
    >> Ok (Makes 5 (λ ts. S with cut_of h u v (five_of ts)))

mef-is : (S : Shape) (f h : Tag) (u v : PlacedFin) → fin_at S f ≡ Ok u → fin_at S h ≡ Ok v → same_tag u.loop_ v.loop_ ≡ true → same_tag u.vertex v.vertex ≡ false
    → mef S f h ≡ Ok (Makes 5 (λ ts. S with cut_of h u v (five_of ts)))
mef-is S f h u v e k one two =
    ap (λ r. r >>= λ x. fin_at S h >>= cut_row S h x) e
    ∙ ap (λ r. r >>= cut_row S h u) k
    ∙ ap (λ b. refuse_where (not b) (NotOneLoop u.loop_ v.loop_) >> refuse_where (same_tag u.vertex v.vertex) (SameVertex u.vertex) >> Ok (Makes 5 (λ ts. S with cut_of h u v (five_of ts)))) one
    ∙ ap (λ b. refuse_where b (SameVertex u.vertex) >> Ok (Makes 5 (λ ts. S with cut_of h u v (five_of ts)))) two

-- a fin, where all that is around it is known
abbrev placed : Tag → Tag → Tag → Tag → Tag → Tag → Tag → List Tag → PlacedFin
placed mate edge v l face shell b fins = record {
  mate = mate;
  edge = edge;
  vertex = v;
  loop_ = l;
  face = face;
  shell = shell;
  body = b;
  fins = fins;
}

-- S is the shape so far, and ts are the tags that are left. All is in the loop l.
module _ (S : Shape) (well : IsWell S) (ts : List Tag) (l face shell b : Tag) (list : List Tag) (lone : Option Tag) (is : item_at S l ≡ Some (Loop face list lone)) (home : Home S face shell b) where
  fin_is_at : (t mate edge v : Tag) → item_at S t ≡ Some (Fin mate edge v) → Contains list t → fin_at S t ≡ Ok (placed mate edge v l face shell b (written_from t list))
  fin_is_at t mate edge v fin_is among =
      let owner : owner_in S t ≡ l = loop-of_fin S well.written well.sound l face list lone is t among in
      ap (asked (as_fin S t) t) fin_is
      ∙ (λ i. Ok (placed mate edge v (owner i) (owner_in S (owner i)) (owner_in S (owner_in S (owner i))) (body_of S (owner i)) (written_from t (fins_at S (owner i)))))
      ∙ (λ i. Ok (placed mate edge v l (home-face S face shell b home l list lone is i) (home-shell S face shell b home l list lone is i) (home-body S face shell b home l list lone is i)
      (written_from t (home-fins S face shell b home l list lone is i))))

  pub cut-fins : (f f_mate f_edge u h h_mate h_edge v : Tag) (A B : List Tag) → item_at S f ≡ Some (Fin f_mate f_edge u) → item_at S h ≡ Some (Fin h_mate h_edge v) → Contains list f → Contains list h
      → u ≢ v → written_from f list ≡ (f ∷ A) ++ h ∷ B → NoRepeats ((f ∷ A) ++ h ∷ B)
      → after_row (mef S f h) (start S ts) ≡ with_items S well ts (cut_items b shell face l u v (f ∷ A) (h ∷ B) (five_of ts)) (drop 5 ts)
  cut-fins f f_mate f_edge u h h_mate h_edge v A B f_is h_is f_in h_in apart written once =
      let one = placed f_mate f_edge u l face shell b (written_from f list) in
      let two = placed h_mate h_edge v l face shell b (written_from h list) in
      let p = parts_at h (f ∷ A) B (not_before h (f ∷ A) B once) in
      ap (λ r. after_row r (start S ts)) (mef-is S f h one two (fin_is_at f f_mate f_edge u f_is f_in) (fin_is_at h h_mate h_edge v h_is h_in) (same_itself l) (not_same u v apart))
      ∙ (λ i. with_items S well ts (cut_items b shell face l u v ((ap (before h) written ∙ p.0) i) ((ap (from h) written ∙ p.1) i) (five_of ts)) (drop 5 ts))

-- ---- what stands there then

-- S is the shape so far, ts are the tags that are left, and x is the item of the loop l.
module _ (S : Shape) (ts : List Tag) (ascend : TagsAscend ts) (free : AllByRecursion (λ t. item_at S t ≡ None) ts) (l : Tag) (x : Item) (is : item_at S l ≡ Some x) where
  new_other : (i : ℕ) (q : Tag) (y : Item) → i < length ts → item_at S q ≡ Some y → q ≢ tag_at ts i
  new_other i q y h here e = let both : Some y ≡ None = sym here ∙ ap (item_at S) e ∙ free_at S ts i free h in cc

  other_new : (i : ℕ) → i < length ts → tag_at ts i ≢ l
  other_new i h e = new_other i l x h is (sym e)

  pub edge-stands : (b face u : Tag) (at : Triple) (fins : List Tag) → 4 ≤ length ts → Stand (S with edge_items b face l u at fins (four_of ts)) (edge_items b face l u at fins (four_of ts))
  edge-stands b face u at fins enough =
      let apart = λ (i j : ℕ) (h : i < j) (k : j < 4). apart_at ts i j ascend h (omega (arith, k, enough)) in
      let other = λ (i : ℕ) (h : i < 4). other_new i (omega (arith, h, enough)) in
      stand-written S (edge_items b face l u at fins (four_of ts)) (
        (apart 0 1 (omega arith) (omega arith), (apart 0 2 (omega arith) (omega arith), (apart 0 3 (omega arith) (omega arith), (other 0 (omega arith), tt)))),
        (
          (apart 1 2 (omega arith) (omega arith), (apart 1 3 (omega arith) (omega arith), (other 1 (omega arith), tt))),
          ((apart 2 3 (omega arith) (omega arith), (other 2 (omega arith), tt)), ((other 3 (omega arith), tt), (tt, tt))),
        ),
      )

  pub edge-stays : (b face u : Tag) (at : Triple) (fins : List Tag) → 4 ≤ length ts → (q : Tag) (y : Item) → item_at S q ≡ Some y → q ≢ l → item_at (S with edge_items b face l u at fins (four_of ts)) q ≡ Some y
  edge-stays b face u at fins enough q y here other =
      let new = λ (i : ℕ) (h : i < 4). new_other i q y (omega (arith, h, enough)) here in
      with-other S (edge_items b face l u at fins (four_of ts)) q (new 0 (omega arith), (new 1 (omega arith), (new 2 (omega arith), (new 3 (omega arith), (other, tt))))) ∙ here

  pub cut-stands : (b shell face u v : Tag) (fresh rest : List Tag) → 5 ≤ length ts → Stand (S with cut_items b shell face l u v fresh rest (five_of ts)) (cut_items b shell face l u v fresh rest (five_of ts))
  cut-stands b shell face u v fresh rest enough =
      let apart = λ (i j : ℕ) (h : i < j) (k : j < 5). apart_at ts i j ascend h (omega (arith, k, enough)) in
      let other = λ (i : ℕ) (h : i < 5). other_new i (omega (arith, h, enough)) in
      stand-written S (cut_items b shell face l u v fresh rest (five_of ts)) (
        (apart 0 1 (omega arith) (omega arith), (apart 0 2 (omega arith) (omega arith), (apart 0 3 (omega arith) (omega arith), (apart 0 4 (omega arith) (omega arith), (other 0 (omega arith), tt))))),
        (
          (apart 1 2 (omega arith) (omega arith), (apart 1 3 (omega arith) (omega arith), (apart 1 4 (omega arith) (omega arith), (other 1 (omega arith), tt)))),
          (
            (apart 2 3 (omega arith) (omega arith), (apart 2 4 (omega arith) (omega arith), (other 2 (omega arith), tt))),
            ((apart 3 4 (omega arith) (omega arith), (other 3 (omega arith), tt)), ((other 4 (omega arith), tt), (tt, tt))),
          ),
        ),
      )

  pub cut-stays : (b shell face u v : Tag) (fresh rest : List Tag) → 5 ≤ length ts → (q : Tag) (y : Item) → item_at S q ≡ Some y → q ≢ l → item_at (S with cut_items b shell face l u v fresh rest (five_of ts)) q ≡ Some y
  cut-stays b shell face u v fresh rest enough q y here other =
      let new = λ (i : ℕ) (h : i < 5). new_other i q y (omega (arith, h, enough)) here in
      with-other S (cut_items b shell face l u v fresh rest (five_of ts)) q (new 0 (omega arith), (new 1 (omega arith), (new 2 (omega arith), (new 3 (omega arith), (new 4 (omega arith), (other, tt)))))) ∙ here
