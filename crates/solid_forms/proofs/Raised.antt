-- A sweep, first part: an edge from the start of each fin of the loop along the vector.
use Rattle.std.proofs.Common.{◌≡◌, ◌≢◌, ℕ, zero, suc, ◌+◌, ◌*◌, ◌<◌, ◌≤◌, List, [], ◌∷◌, ◌++◌, length, drop, Option, Some, None, refl, sym, ap, subst, ◌∙◌, append_assoc, append-nil, arith}
use Rattle.std.specs.Prelude.{map, Contains}
use Rattle.std.specs.Option.{option_map_or}
use Rattle.std.specs.List.{AllByRecursion}
use Rattle.std.proofs.lemmas.List.{drop-drop, length-append}
use Rattle.std.proofs.lemmas.List.Elements.{Contains-append_right}
use Rattle.pk_base.specs.Blocks.{tag}
use Rattle.pk_base.specs.declared.tag.Tag.{Tag}
use Rattle.pk_base.specs.declared.entity.Triple.{Triple}
use Rattle.pk_base.specs.declared.entity.Class.TheVariants as class
use Rattle.pk_model.specs.Apart.{NoRepeats}
use Rattle.pk_model.specs.Tags.{TagsAscend, tag_at}
use Rattle.pk_plane.specs.Turns.{moved}
use Rattle.solid_model.specs.Items.{Item, Shape, item_at, ◌with◌}
use Rattle.solid_model.specs.Items.Item.{Face, Loop, Fin, Edge, Vertex}
use Rattle.solid_model.specs.Rings.{written_from, from_least, ring_of}
use Rattle.solid_model.specs.Places.{start_at, point_at, vertex_of}
use Rattle.solid_model.specs.Ranges.{is_coordinate, numbers_of, refuse_outside}
use Rattle.solid_model.specs.Folds.{Progress, after_row, after_edges}
use Rattle.solid_model.specs.Mev.{mev}
use Rattle.solid_model.specs.Sound.{class_at}
use Rattle.solid_model.specs.Sweep.{triple_of, along}
use Rattle.list_facts.proofs.Elements.{Contains-first}
use Rattle.list_facts.proofs.Each.{ByRecursion-at}
use Rattle.solid_model.proofs.lists.Turned.{turned-in, turned-least}
use Rattle.solid_sound.proofs.shapes.Reading.{fin_of_class, fins-once}
use Rattle.solid_sound.proofs.rows.RowKeeps.{IsWell}
use Rattle.solid_sound.proofs.rows.Asked.{free_at}
use Rattle.solid_sound.proofs.rows.KeptRings.{apart, free_apart}
use Rattle.solid_sound.proofs.rows.Progress.{start, Began, began-mev, left-ascend, left-free, left-enough}
use Rattle.solid_forms.specs.SweepForm.{StaysBut}
use Rattle.solid_forms.proofs.Turnings.{written-least, from_least-swapped}
use Rattle.solid_forms.proofs.Steps.{Stand, at-left, Home, edge_items, four_of, edge-fin, edge-stands, edge-stays}
use Rattle.solid_forms.proofs.InOrder.{all_below, length-last}

-- ---- what a sweep begins with

-- The loop l of the face f, in the shell and the body, has these fins.
pub record Swept (S : Shape) (f shell b l : Tag) (fins : List Tag) : Type 0 where
  pub home : Home S f shell b
  pub face_is : item_at S f ≡ Some (Face shell l)
  pub loop_is : item_at S l ≡ Some (Loop f fins None)

pub face-not_loop : (S : Shape) (f shell b l : Tag) (fins : List Tag) → Swept S f shell b l fins → f ≢ l
face-not_loop S f shell b l fins w = apart S f l (Face shell l) (Loop f fins None) w.face_is w.loop_is (λ e. cc)

-- the fin starts where it starts
pub record FinAt (S : Shape) (g : Tag) : Type 0 where
  pub mate : Tag
  pub edge : Tag
  pub is : item_at S g ≡ Some (Fin mate edge (start_at S g))

pub fin-at : (S : Shape) → IsWell S → (f shell b l : Tag) (fins : List Tag) → Swept S f shell b l fins → (g : Tag) → Contains fins g → FinAt S g
fin-at S well f shell b l fins w g k =
    let kinds = (well.sound.names.kinds l (Loop f fins None) w.loop_is).1 in
    let x = fin_of_class (item_at S g) (ByRecursion-at (λ t. class_at S t ≡ Some class.Fin) fins g kinds k) in
    let starts : start_at S g ≡ x.2 = ap (λ (o : Option Item). option_map_or vertex_of o (tag 0)) x.3 in
    record { mate = x.0; edge = x.1; is = x.3 ∙ ap (λ v. Some (Fin x.0 x.1 v)) (sym starts) }

-- where the edge from a fin leads is within the limit
abbrev pub LeadsWithin : Shape → Triple → Tag → Type 0
LeadsWithin S by g = refuse_outside is_coordinate (numbers_of (triple_of (moved by (point_at S (start_at S g))))) ≡ None

-- ---- the loop's list

-- at each of the first i fins: the fin out, the fin back, and the fin itself
abbrev pub raised : List Tag → List Tag → ℕ → List Tag
raised tags fins zero = []
raised tags fins (suc i) = raised tags fins i ++ tag_at tags (4 * i + 2) ∷ tag_at tags (4 * i + 3) ∷ tag_at fins i ∷ []

-- Edges lead from the first i fins; those that are left are the rest.
pub record Edges (S : Shape) (tags : List Tag) (by : Triple) (f b l : Tag) (fins : List Tag) (i : ℕ) (rest : List Tag) (p : Progress) : Type 0 where
  pub loop_is : item_at p.shape l ≡ Some (Loop f (from_least (raised tags fins i ++ rest)) None)
  pub points : (k : ℕ) → k < i → item_at p.shape (tag_at tags (4 * k)) ≡ Some (Vertex b (moved by (point_at S (start_at S (tag_at fins k)))))
  pub edges : (k : ℕ) → k < i → item_at p.shape (tag_at tags (4 * k + 1)) ≡ Some (Edge b)
  pub outs : (k : ℕ) → k < i → item_at p.shape (tag_at tags (4 * k + 2)) ≡ Some (Fin (tag_at tags (4 * k + 3)) (tag_at tags (4 * k + 1)) (start_at S (tag_at fins k)))
  pub backs : (k : ℕ) → k < i → item_at p.shape (tag_at tags (4 * k + 3)) ≡ Some (Fin (tag_at tags (4 * k + 2)) (tag_at tags (4 * k + 1)) (tag_at tags (4 * k)))
  pub stays : StaysBut l S p.shape
  pub tags_are : p.tags ≡ drop (4 * i) tags

pub tag-next : (seen rest : List Tag) (g : Tag) → tag_at (seen ++ g ∷ rest) (length seen) ≡ g
tag-next [] rest g = refl
tag-next (x ∷ xs) rest g = tag-next xs rest g

-- S is the shape at the beginning, and these are the tags that there were.
module _ (S : Shape) (tags : List Tag) (well : IsWell S) (ascend : TagsAscend tags) (free : AllByRecursion (λ t. item_at S t ≡ None) tags)
    (by : Triple) (f shell b l : Tag) (fins : List Tag) (w : Swept S f shell b l fins) where
  abbrev T : ℕ → Tag
  T i = tag_at tags i

  pub new_not_loop : (i : ℕ) → i < length tags → T i ≢ l
  new_not_loop i h e = free_apart S l (T i) (Loop f fins None) (free_at S tags i free h) w.loop_is (sym e)

  pub home_at : (P : Shape) → StaysBut l S P → Home P f shell b
  home_at P stays =
      let h = w.home in
      let keep = λ (t : Tag) (x : Item) (is : item_at S t ≡ Some x) (other : x ≢ Loop f fins None). stays t x is (apart S t l x (Loop f fins None) is w.loop_is other) in
      record { outer = h.outer; q = h.q; face_is = keep f _ h.face_is (λ e. cc); shell_is = keep shell _ h.shell_is (λ e. cc); body_is = keep b _ h.body_is (λ e. cc) }

  -- one edge more
  edges-next : (i n : ℕ) (g : Tag) (rest : List Tag) (p : Progress) → tag_at fins i ≡ g → Contains fins g → Began S tags n p → n + 4 ≤ length tags → 4 * i + 4 ≤ length tags → LeadsWithin S by g
      → Edges S tags by f b l fins i (g ∷ rest) p → Edges S tags by f b l fins (suc i) rest (after_row (mev p.shape g (along S by g).1) p)
  edges-next i n g rest p g_is g_in began enough some none h =
      let P = p.shape in
      let ts = p.tags in
      let p_ascend = left-ascend S tags ascend free n p began in
      let p_free = left-free S tags ascend free n p began in
      let fits : 4 ≤ length ts = left-enough S tags ascend free n 4 p began enough in
      let at = (along S by g).1 in
      let v = start_at S g in
      let ups = raised tags fins i in
      let list = from_least (ups ++ g ∷ rest) in
      let old = Loop f list None in
      let fin = fin-at S well f shell b l fins w g g_in in
      let fin_is : item_at P g ≡ Some (Fin fin.mate fin.edge v) = h.stays g _ fin.is (apart S g l _ (Loop f fins None) fin.is w.loop_is (λ e. cc)) in
      let once : NoRepeats list = fins-once P began.well.written began.well.sound l f list None h.loop_is in
      let among : Contains list g = turned-in (ups ++ g ∷ rest) list (turned-least (ups ++ g ∷ rest)) g (Contains-append_right ups (g ∷ rest) g (Contains-first g rest)) in
      let written : written_from g list ≡ (g ∷ rest) ++ ups = written-least g ups rest once in
      let row = edge-fin P began.well ts g fin.mate fin.edge v l f shell b list None at fin_is h.loop_is among (home_at P h.stays) none in
      let xs = edge_items b f l v at (written_from g list) in
      let R = P with xs (four_of ts) in
      let stand = edge-stands P ts p_ascend p_free l old h.loop_is b f v at (written_from g list) fits in
      let left = λ (r j : ℕ) (e : 4 * i + r ≡ j). at-left tags ts (4 * i) r j h.tags_are e in
      let w_is : tag_at ts 0 ≡ T (4 * i) = left 0 (4 * i) (omega arith) in
      let e_is : tag_at ts 1 ≡ T (4 * i + 1) = left 1 (4 * i + 1) refl in
      let n_is : tag_at ts 2 ≡ T (4 * i + 2) = left 2 (4 * i + 2) refl in
      let m_is : tag_at ts 3 ≡ T (4 * i + 3) = left 3 (4 * i + 3) refl in
      let named : Stand R (xs (T (4 * i), T (4 * i + 1), T (4 * i + 2), T (4 * i + 3))) = subst (Stand R) (λ j. xs (w_is j, e_is j, n_is j, m_is j)) stand in
      let keep = λ (k : ℕ) (y : Item) (is : item_at P (T k) ≡ Some y) (less : k < length tags).
      edge-stays P ts p_ascend p_free l old h.loop_is b f v at (written_from g list) fits (T k) y is (new_not_loop k less) in
      let o = T (4 * i + 2) in
      let k = T (4 * i + 3) in
      let next : Began S tags (n + 4) (record { shape = R; tags = drop 4 ts }) = subst (Began S tags (n + 4)) row (began-mev S tags ascend free n p g at began enough) in
      let ring : item_at R l ≡ Some (ring_of f ((o ∷ k ∷ g ∷ rest) ++ ups)) = named.1.1.1.1.0 ∙ ap (λ fs. Some (ring_of f (o ∷ k ∷ fs))) written in
      let new_once = fins-once R next.well.written next.well.sound l f (from_least ((o ∷ k ∷ g ∷ rest) ++ ups)) None ring in
      let turned : from_least ((o ∷ k ∷ g ∷ rest) ++ ups) ≡ from_least (raised tags fins (suc i) ++ rest) =
      from_least-swapped (o ∷ k ∷ g ∷ rest) ups new_once
      ∙ ap from_least (sym (append_assoc ups (o ∷ k ∷ g ∷ []) rest) ∙ ap (λ t. (ups ++ o ∷ k ∷ t ∷ []) ++ rest) (sym g_is)) in
      let long : drop 4 ts ≡ drop (4 * suc i) tags = ap (drop 4) h.tags_are ∙ drop-drop 4 (4 * i) tags ∙ ap (λ j. drop j tags) (let e : 4 * i + 4 ≡ 4 * suc i = omega arith in e) in
      let made : Edges S tags by f b l fins (suc i) rest (record { shape = R; tags = drop 4 ts }) = record {
        loop_is = ring ∙ ap (λ fs. Some (Loop f fs None)) turned;
        points = all_below (λ k. item_at R (T (4 * k)) ≡ Some (Vertex b (moved by (point_at S (start_at S (tag_at fins k)))))) i
            (λ k less. keep (4 * k) _ (h.points k less) (omega (arith, less, some))) (named.0 ∙ ap (λ t. Some (Vertex b (moved by (point_at S (start_at S t))))) (sym g_is));
        edges = all_below (λ k. item_at R (T (4 * k + 1)) ≡ Some (Edge b)) i (λ k less. keep (4 * k + 1) _ (h.edges k less) (omega (arith, less, some))) named.1.0;
        outs = all_below (λ k. item_at R (T (4 * k + 2)) ≡ Some (Fin (T (4 * k + 3)) (T (4 * k + 1)) (start_at S (tag_at fins k)))) i
            (λ k less. keep (4 * k + 2) _ (h.outs k less) (omega (arith, less, some))) (named.1.1.0 ∙ ap (λ t. Some (Fin (T (4 * i + 3)) (T (4 * i + 1)) (start_at S t))) (sym g_is));
        backs = all_below (λ k. item_at R (T (4 * k + 3)) ≡ Some (Fin (T (4 * k + 2)) (T (4 * k + 1)) (T (4 * k)))) i (λ k less. keep (4 * k + 3) _ (h.backs k less) (omega (arith, less, some))) named.1.1.1.0;
        stays = λ q y is other. edge-stays P ts p_ascend p_free l old h.loop_is b f v at (written_from g list) fits q y (h.stays q y is other) other;
        tags_are = long;
      } in
      subst (Edges S tags by f b l fins (suc i) rest) (sym row) made

  -- all of them
  edges-all : (rest seen : List Tag) (i n : ℕ) (p : Progress) → fins ≡ seen ++ rest → length seen ≡ i → Began S tags n p → n + 4 * length rest ≤ length tags → 4 * length fins ≤ length tags
      → AllByRecursion (LeadsWithin S by) rest → Edges S tags by f b l fins i rest p → Edges S tags by f b l fins (length fins) [] (after_edges (map (along S by) rest) p)
  edges-all [] seen i n p all long began enough some none h =
      let end : i ≡ length fins = sym long ∙ sym (ap length (append-nil seen)) ∙ sym (ap length all) in
      subst (λ k. Edges S tags by f b l fins k [] p) end h
  edges-all (g ∷ rest) seen i n p all long began enough some none h =
      let at = (along S by g).1 in
      let g_is : tag_at fins i ≡ g = (λ j. tag_at (all j) (sym long j)) ∙ tag-next seen rest g in
      let g_in : Contains fins g = subst (λ ts. Contains ts g) (sym all) (Contains-append_right seen (g ∷ rest) g (Contains-first g rest)) in
      let count = ap length all ∙ length-append seen (g ∷ rest) in
      let next = edges-next i n g rest p g_is g_in began (omega (arith, enough)) (omega (arith, count, long, some)) none.0 h in
      edges-all rest (seen ++ g ∷ []) (suc i) (n + 4) (after_row (mev p.shape g at) p) (all ∙ sym (append_assoc seen (g ∷ []) rest)) (length-last seen g ∙ ap suc long)
      (began-mev S tags ascend free n p g at began (omega (arith, enough))) (omega (arith, enough)) some none.1 next

  pub edges-raised : (n : ℕ) → Began S tags n (start S tags) → n + 4 * length fins ≤ length tags → AllByRecursion (LeadsWithin S by) fins
      → Edges S tags by f b l fins (length fins) [] (after_edges (map (along S by) fins) (start S tags))
  edges-raised n began enough none =
      let none_yet = λ (k : ℕ) (less : k < 0). absurd {A = ⊥} (omega (arith, less)) in
      edges-all fins [] 0 n (start S tags) refl refl began enough (omega (arith, enough)) none (record {
        loop_is = w.loop_is ∙ ap (λ fs. Some (Loop f fs None)) (sym (well.written.loops l f fins None w.loop_is));
        points = λ k less. absurd (none_yet k less);
        edges = λ k less. absurd (none_yet k less);
        outs = λ k less. absurd (none_yet k less);
        backs = λ k less. absurd (none_yet k less);
        stays = λ t x is other. is;
        tags_are = refl;
      })
