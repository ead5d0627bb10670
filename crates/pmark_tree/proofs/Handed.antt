-- The rows and the links, once children are handed over and a mark is dead.
use Rattle.std.proofs.Common.{◌≡◌, ◌≢◌, ℕ, zero, suc, ◌<◌, ◌≤◌, ⊎_elim, List, [], ◌∷◌, ◌++◌, length, set, Option, None, Some, ◌↔◌, refl, sym, ap, subst, ◌∙◌, arith}
use Rattle.std.specs.Prelude.{map, Contains, IsSome}
use Rattle.std.specs.List.{AllByRecursion}
use Rattle.std.proofs.lemmas.Bool.{cases_lt, cases_eq}
use Rattle.std.proofs.lemmas.List.{get_or-set_same, get_or-set_other, length-set, length-map, ext_get_or, map-append}
use Rattle.pk_base.specs.Blocks.{tag}
use Rattle.pk_base.specs.declared.tag.Tag.{Tag}
use Rattle.list_facts.proofs.Elements.{not_in_nil, Contains-first, Contains-later, Contains-cases, Contains-map, map_contains}
use Rattle.list_facts.proofs.Each.{ByRecursion-at, ByRecursion-contains, ByRecursion-weaker}
use Rattle.owner_links.specs.Links.{NoRepeats, owner_at}
use Rattle.delta.specs.Composed.{composed}
use Rattle.pmark_tree.specs.declared.mark.TreeMark.{TreeMark}
use Rattle.pmark_tree.specs.declared.remove.Moved.{Moved}
use Rattle.pmark_tree.specs.Marks.{mark_at, delta_in, dead_mark, after_removal}
use Rattle.pmark_tree.specs.Rows.{row_at, IsChildRow, AreLinked}
use Rattle.pmark_tree.specs.Removal.{rows_in, IsMoved, AreMoved, with_moved, handed_over, owned_by, MayMove}
use Rattle.pmark_tree.proofs.Found.{mark_at-row, parent_in-at, delta_in-at}
use Rattle.pmark_tree.proofs.Grown.{some_is, not_none}
use Rattle.pmark_tree.proofs.Linked.{row_past, same_row}
use Rattle.pmark_tree.proofs.Removed.{MayRemove, removal, after_removal-it, after_removal-child, after_removal-same, after_removal-tag, child_or_not, p_other}

-- ---- handed over, row by row

pub length-handed_over : (p : Tag) (moved : List Moved) (rows : List TreeMark) → length (handed_over p moved rows) ≡ length rows
length-handed_over p [] rows = refl
length-handed_over p (m ∷ moved) rows = length-set (handed_over p moved rows) m.row (record (row_at (handed_over p moved rows) m.row) { parent = Some p; delta = m.delta }) ∙ length-handed_over p moved rows

pub handed_over-other : (p : Tag) (moved : List Moved) (rows : List TreeMark) (i : ℕ) → (Contains (rows_in moved) i → ⊥) → row_at (handed_over p moved rows) i ≡ row_at rows i
handed_over-other p [] rows i h = refl
handed_over-other p (m ∷ moved) rows i h =
    get_or-set_other (handed_over p moved rows) m.row i (record (row_at (handed_over p moved rows) m.row) { parent = Some p; delta = m.delta }) (dead_mark (tag 0))
    (λ e. h (subst (Contains (m.row ∷ rows_in moved)) (sym e) (Contains-first m.row (rows_in moved))))
    ∙ handed_over-other p moved rows i (λ c. h (Contains-later m.row (rows_in moved) i c))

not_again : (n : ℕ) (ns : List ℕ) → AllByRecursion (λ m. n ≢ m) ns → Contains ns n → ⊥
not_again n ns h c = ByRecursion-at (λ m. n ≢ m) ns n h c refl

pub handed_over-moved : (p : Tag) (moved : List Moved) (rows : List TreeMark) (m : Moved) → NoRepeats (rows_in moved) → Contains moved m → m.row < length rows → row_at (handed_over p moved rows) m.row ≡ record (row_at rows m.row) { parent = Some p; delta = m.delta }
handed_over-moved p [] rows m h c l = absurd (not_in_nil m c)
handed_over-moved p (k ∷ moved) rows m h c l =
    let before = handed_over p moved rows in
    ⊎_elim {C = row_at (handed_over p (k ∷ moved) rows) m.row ≡ record (row_at rows m.row) { parent = Some p; delta = m.delta }} (λ (e : k ≡ m).
    let alone : (Contains (rows_in moved) m.row → ⊥) = subst (λ (j : Moved). Contains (rows_in moved) j.row → ⊥) e (not_again k.row (rows_in moved) h.0) in
    subst (λ (j : Moved). row_at (handed_over p (j ∷ moved) rows) m.row ≡ record (row_at rows m.row) { parent = Some p; delta = m.delta }) (sym e)
    (get_or-set_same before m.row (record (row_at before m.row) { parent = Some p; delta = m.delta }) (dead_mark (tag 0)) (subst (λ n. m.row < n) (sym (length-handed_over p moved rows)) l)
    ∙ ap (λ (x : TreeMark). record x { parent = Some p; delta = m.delta }) (handed_over-other p moved rows m.row alone)))
    (λ (r : Contains moved m).
    get_or-set_other before k.row m.row (record (row_at before k.row) { parent = Some p; delta = k.delta }) (dead_mark (tag 0))
    (λ e. ByRecursion-at (λ n. k.row ≢ n) (rows_in moved) m.row h.0 (Contains-map (λ (j : Moved). j.row) moved m r) (sym e))
    ∙ handed_over-moved p moved rows m h.1 r l)
    (Contains-cases k moved m c)

-- the last one goes over first
pub handed_over-last : (p : Tag) (moved : List Moved) (m : Moved) (rows : List TreeMark) → handed_over p (moved ++ m ∷ []) rows ≡ handed_over p moved (with_moved p m rows)
handed_over-last p [] m rows = refl
handed_over-last p (k ∷ moved) m rows = ap (with_moved p k) (handed_over-last p moved m rows)

-- ---- owned, slot by slot

pub length-owned_by : (o : ℕ) (cs : List ℕ) (owners : List (Option ℕ)) → length (owned_by o cs owners) ≡ length owners
length-owned_by o [] owners = refl
length-owned_by o (c ∷ cs) owners = length-set (owned_by o cs owners) c (Some o) ∙ length-owned_by o cs owners

pub owned_by-other : (o : ℕ) (cs : List ℕ) (owners : List (Option ℕ)) (i : ℕ) → (Contains cs i → ⊥) → owner_at (owned_by o cs owners) i ≡ owner_at owners i
owned_by-other o [] owners i h = refl
owned_by-other o (c ∷ cs) owners i h =
    get_or-set_other (owned_by o cs owners) c i (Some o) None (λ e. h (subst (Contains (c ∷ cs)) (sym e) (Contains-first c cs)))
    ∙ owned_by-other o cs owners i (λ r. h (Contains-later c cs i r))

pub owned_by-moved : (o : ℕ) (cs : List ℕ) (owners : List (Option ℕ)) (i : ℕ) → Contains cs i → i < length owners → owner_at (owned_by o cs owners) i ≡ Some o
owned_by-moved o [] owners i c l = absurd (not_in_nil i c)
owned_by-moved o (c ∷ cs) owners i k l =
    ⊎_elim {C = owner_at (owned_by o (c ∷ cs) owners) i ≡ Some o} (λ (e : i ≡ c).
    subst (λ j. owner_at (owned_by o (j ∷ cs) owners) i ≡ Some o) e (get_or-set_same (owned_by o cs owners) i (Some o) None (subst (λ n. i < n) (sym (length-owned_by o cs owners)) l)))
    (λ (n : i ≢ c).
    get_or-set_other (owned_by o cs owners) c i (Some o) None n
    ∙ owned_by-moved o cs owners i (⊎_elim {C = Contains cs i} (λ (e : c ≡ i). absurd (n (sym e))) (λ (r : Contains cs i). r) (Contains-cases c cs i k)) l)
    (cases_eq i c)

pub owned_by-last : (o : ℕ) (cs : List ℕ) (c : ℕ) (owners : List (Option ℕ)) → owned_by o (cs ++ c ∷ []) owners ≡ owned_by o cs (set owners c (Some o))
owned_by-last o [] c owners = refl
owned_by-last o (b ∷ cs) c owners = ap (λ os. set os b (Some o)) (owned_by-last o cs c owners)

no_number : (o : Option ℕ) (a : ℕ) → o ≡ Some a → o ≡ None → ⊥
no_number o a e f = let g : Some a ≡ None = sym e ∙ f in absurd (cc)

some_number : (o : Option ℕ) (a b : ℕ) → o ≡ Some a → o ≡ Some b → a ≡ b
some_number o a b e f = let g : Some a ≡ Some b = sym e ∙ f in cc

-- ---- the removal

row-mapped : (f : TreeMark → TreeMark) (ks : List TreeMark) (i : ℕ) → i < length ks → row_at (map f ks) i ≡ f (row_at ks i)
row-mapped f [] i h = absurd (omega arith)
row-mapped f (k ∷ ks) zero h = refl
row-mapped f (k ∷ ks) (suc i) h = row-mapped f ks i (omega arith)

pub record Removes (ks : List TreeMark) (t p : Tag) (row owner : ℕ) (moved : List Moved) : Type 0 where
  pub may : MayRemove ks t p
  pub within : row < length ks
  pub tag : (row_at ks row).tag ≡ t
  pub above : owner < length ks
  pub above_tag : (row_at ks owner).tag ≡ p
  pub are : AreMoved ks row moved

module _ (ks : List TreeMark) (t p : Tag) (row owner : ℕ) (moved : List Moved) (h : Removes ks t p row owner moved) where
  at_row : mark_at ks t ≡ Some (row_at ks row)
  at_row = ap (mark_at ks) (sym h.tag) ∙ mark_at-row ks row h.may.tree.ascend h.within

  its_delta : delta_in ks t ≡ (row_at ks row).delta
  its_delta = delta_in-at ks t (row_at ks row) at_row

  its_parent : (row_at ks row).parent ≡ Some p
  its_parent = sym (parent_in-at ks t (row_at ks row) at_row) ∙ h.may.parent

  -- it is not its own child
  not_own : Contains (rows_in moved) row → ⊥
  not_own c =
      let child = (h.are.all row).0 c in
      p_other ks t p h.may (some_is (row_at ks row).parent p t its_parent (child.parent ∙ ap Some h.tag))

  other_tag : (i : ℕ) → i < length ks → i ≢ row → (row_at ks i).tag ≢ t
  other_tag i l n e = n (same_row ks i row h.may.tree.ascend l h.within (e ∙ sym h.tag))

  pub row_kept : row_at (handed_over p moved ks) row ≡ row_at ks row
  row_kept = handed_over-other p moved ks row not_own

  abbrev New : List TreeMark
  New = set (handed_over p moved ks) row (dead_mark (row_at (handed_over p moved ks) row).tag)

  new-it : row_at New row ≡ after_removal ks t (row_at ks row)
  new-it =
      get_or-set_same (handed_over p moved ks) row (dead_mark (row_at (handed_over p moved ks) row).tag) (dead_mark (tag 0)) (subst (λ n. row < n) (sym (length-handed_over p moved ks)) h.within)
      ∙ ap (λ (k : TreeMark). dead_mark k.tag) row_kept
      ∙ sym (after_removal-it ks t (row_at ks row) h.tag)

  new-before : (i : ℕ) → i ≢ row → row_at New i ≡ row_at (handed_over p moved ks) i
  new-before i n = get_or-set_other (handed_over p moved ks) row i (dead_mark (row_at (handed_over p moved ks) row).tag) (dead_mark (tag 0)) n

  child_of : (i : ℕ) → (row_at ks i).parent ≡ Some t → IsChildRow ks i row
  child_of i e = record { within = h.within; parent = e ∙ ap Some (sym h.tag) }

  new-child : (i : ℕ) → i < length ks → i ≢ row → (row_at ks i).parent ≡ Some t → row_at New i ≡ after_removal ks t (row_at ks i)
  new-child i l n e =
      let m = map_contains (λ (j : Moved). j.row) moved i ((h.are.all i).1 (child_of i e)) in
      let k = row_at ks i in
      let back = sym its_delta in
      let delta : (m.0).delta ≡ composed (delta_in ks t) k.delta = ByRecursion-at (IsMoved ks row) moved m.0 h.are.deltas m.1 ∙ (λ j. composed (back j) (row_at ks (m.2 j)).delta) in
      let there : row_at (handed_over p moved ks) i ≡ record k { parent = Some p; delta = (m.0).delta } = subst (λ c. row_at (handed_over p moved ks) c ≡ record (row_at ks c) { parent = Some p; delta = (m.0).delta }) m.2
      (handed_over-moved p moved ks m.0 h.are.once m.1 (subst (λ c. c < length ks) (sym m.2) l)) in
      let under = sym h.may.parent in
      new-before i n ∙ there ∙ (λ j. record k { parent = under j; delta = delta j }) ∙ sym (after_removal-child ks t k (other_tag i l n) e)

  new-other : (i : ℕ) → i < length ks → i ≢ row → (row_at ks i).parent ≢ Some t → row_at New i ≡ after_removal ks t (row_at ks i)
  new-other i l n m =
      new-before i n
      ∙ handed_over-other p moved ks i (λ c. m (((h.are.all i).0 c).parent ∙ ap Some h.tag))
      ∙ sym (after_removal-same ks t (row_at ks i) (other_tag i l n) m)

  new-row : (i : ℕ) → i < length ks → row_at New i ≡ after_removal ks t (row_at ks i)
  new-row i l =
      ⊎_elim {C = row_at New i ≡ after_removal ks t (row_at ks i)} (λ (e : i ≡ row). subst (λ j. row_at New j ≡ after_removal ks t (row_at ks j)) (sym e) new-it)
      (λ (n : i ≢ row).
      ⊎_elim {C = row_at New i ≡ after_removal ks t (row_at ks i)} (λ (e : (row_at ks i).parent ≡ Some t). new-child i l n e)
      (λ (m : (row_at ks i).parent ≢ Some t). new-other i l n m)
      (child_or_not (row_at ks i).parent t))
      (cases_eq i row)

  length-new : length New ≡ length ks
  length-new = length-set (handed_over p moved ks) row (dead_mark (row_at (handed_over p moved ks) row).tag) ∙ length-handed_over p moved ks

  pub rows-removed : New ≡ removal ks t
  rows-removed =
      ext_get_or (dead_mark (tag 0)) New (removal ks t) (length-new ∙ sym (length-map ks (after_removal ks t))) (λ i l.
      let within : i < length ks = subst (λ n. i < n) length-new l in
      new-row i within ∙ sym (row-mapped (after_removal ks t) ks i within))

  -- ---- the links

  removed-row : (i : ℕ) → i < length ks → row_at (removal ks t) i ≡ after_removal ks t (row_at ks i)
  removed-row i l = row-mapped (after_removal ks t) ks i l

  removed-tag : (i : ℕ) → i < length ks → (row_at (removal ks t) i).tag ≡ (row_at ks i).tag
  removed-tag i l = ap (λ (k : TreeMark). k.tag) (removed-row i l) ∙ after_removal-tag ks t (row_at ks i)

  same_length : length (removal ks t) ≡ length ks
  same_length = length-map ks (after_removal ks t)

  -- a child among the new rows, by the old ones
  child_now : (c q : ℕ) → c < length ks → IsChildRow (removal ks t) c q → (q < length ks) × ((after_removal ks t (row_at ks c)).parent ≡ Some (row_at ks q).tag)
  child_now c q l child =
      let within : q < length ks = subst (λ n. q < n) same_length child.within in
      (within, ap (λ (k : TreeMark). k.parent) (sym (removed-row c l)) ∙ child.parent ∙ ap Some (removed-tag q within))

  child_then : (c q : ℕ) → c < length ks → q < length ks → (after_removal ks t (row_at ks c)).parent ≡ Some (row_at ks q).tag → IsChildRow (removal ks t) c q
  child_then c q l within e =
      record { within = subst (λ n. q < n) (sym same_length) within; parent = ap (λ (k : TreeMark). k.parent) (removed-row c l) ∙ e ∙ ap Some (sym (removed-tag q within)) }

  past_row : (c q : ℕ) → length ks ≤ c → IsChildRow (removal ks t) c q → ⊥
  past_row c q m child = not_none (row_at (removal ks t) c).parent (row_at (removal ks t) q).tag child.parent (ap (λ (k : TreeMark). k.parent) (row_past (removal ks t) c (subst (λ n. n ≤ c) (sym same_length) m)))

  past_before : (c q : ℕ) → length ks ≤ c → IsChildRow ks c q → ⊥
  past_before c q m child = not_none (row_at ks c).parent (row_at ks q).tag child.parent (ap (λ (k : TreeMark). k.parent) (row_past ks c m))

  module _ (owners : List (Option ℕ)) (linked : AreLinked ks owners) (room : length ks ≤ length owners) where
    abbrev NewOwners : List (Option ℕ)
    NewOwners = set (owned_by owner (rows_in moved) owners) row None

    abbrev Linked : ℕ → ℕ → Type 0
    Linked c q = (owner_at NewOwners c ≡ Some q) ↔ IsChildRow (removal ks t) c q

    linked-it : (q : ℕ) → Linked row q
    linked-it q =
        let none : owner_at NewOwners row ≡ None = get_or-set_same (owned_by owner (rows_in moved) owners) row None None (let w = h.within in omega (arith, w, room, length-owned_by owner (rows_in moved) owners)) in (
          λ e. absurd (no_number (owner_at NewOwners row) q e none),
          λ child.
              let now = child_now row q h.within child in
              absurd (not_none (after_removal ks t (row_at ks row)).parent (row_at ks q).tag now.1 (ap (λ (k : TreeMark). k.parent) (after_removal-it ks t (row_at ks row) h.tag))),
        )

    owner-before : (c : ℕ) → c ≢ row → owner_at NewOwners c ≡ owner_at (owned_by owner (rows_in moved) owners) c
    owner-before c n = get_or-set_other (owned_by owner (rows_in moved) owners) row c None None n

    linked-child : (c q : ℕ) → c < length ks → c ≢ row → (row_at ks c).parent ≡ Some t → Linked c q
    linked-child c q l n e =
        let is : owner_at NewOwners c ≡ Some owner = owner-before c n ∙ owned_by-moved owner (rows_in moved) owners c ((h.are.all c).1 (child_of c e)) (omega (arith, l, room)) in
        let under : (after_removal ks t (row_at ks c)).parent ≡ Some p = ap (λ (k : TreeMark). k.parent) (after_removal-child ks t (row_at ks c) (other_tag c l n) e) ∙ h.may.parent in (
          λ f. subst (IsChildRow (removal ks t) c) (some_number (owner_at NewOwners c) owner q is f) (child_then c owner l h.above (under ∙ ap Some (sym h.above_tag))),
          λ child.
              let now = child_now c q l child in
              is ∙ ap Some (same_row ks owner q h.may.tree.ascend h.above now.0 (h.above_tag ∙ some_is (after_removal ks t (row_at ks c)).parent p (row_at ks q).tag under now.1)),
        )

    linked-other : (c q : ℕ) → c < length ks → c ≢ row → (row_at ks c).parent ≢ Some t → Linked c q
    linked-other c q l n m =
        let is : owner_at NewOwners c ≡ owner_at owners c = owner-before c n ∙ owned_by-other owner (rows_in moved) owners c (λ k. m (((h.are.all c).0 k).parent ∙ ap Some h.tag)) in
        let same = ap (λ (k : TreeMark). k.parent) (after_removal-same ks t (row_at ks c) (other_tag c l n) m) in (
          λ f. let child = (linked c q).0 (sym is ∙ f) in child_then c q l child.within (same ∙ child.parent),
          λ child.
              let now = child_now c q l child in
              is ∙ (linked c q).1 (record { within = now.0; parent = sym same ∙ now.1 }),
        )

    linked-past : (c q : ℕ) → length ks ≤ c → c ≢ row → Linked c q
    linked-past c q m n =
        let is : owner_at NewOwners c ≡ owner_at owners c = owner-before c n ∙ owned_by-other owner (rows_in moved) owners c (λ k. past_before c row m ((h.are.all c).0 k)) in
        (λ f. absurd (past_before c q m ((linked c q).0 (sym is ∙ f))), λ child. absurd (past_row c q m child))

    pub linked-removed : AreLinked (removal ks t) NewOwners
    linked-removed c q =
        ⊎_elim {C = Linked c q} (λ (e : c ≡ row). subst (λ d. Linked d q) (sym e) (linked-it q))
        (λ (n : c ≢ row).
        ⊎_elim {C = Linked c q} (λ (l : c < length ks).
        ⊎_elim {C = Linked c q} (λ (e : (row_at ks c).parent ≡ Some t). linked-child c q l n e)
        (λ (m : (row_at ks c).parent ≢ Some t). linked-other c q l n m)
        (child_or_not (row_at ks c).parent t))
        (λ (m : length ks ≤ c). linked-past c q m n)
        (cases_lt c (length ks)))
        (cases_eq c row)

    -- ---- what is asked for on the way

    pub may_move : AllByRecursion (MayMove (length ks) owner owners) (rows_in moved)
    may_move =
        ByRecursion-contains (MayMove (length ks) owner owners) (rows_in moved) (λ c k.
        let child = (h.are.all c).0 k in
        let within : c < length ks = ⊎_elim (λ (l : c < length ks). l) (λ (m : length ks ≤ c). absurd (past_before c row m child)) (cases_lt c (length ks)) in
        record {
          within = within;
          slot = omega (arith, within, room);
          owned = subst IsSome (sym ((linked c row).1 child)) refl;
          other = λ e. above_not_below (subst (λ d. (row_at ks d).parent ≡ Some t) e (child.parent ∙ ap Some h.tag));
        })
      where
        above_not_below : (row_at ks owner).parent ≡ Some t → ⊥
        above_not_below e =
            let edge = h.may.tree.edges t (row_at ks owner).tag (parent_in-at ks (row_at ks owner).tag (row_at ks owner) (mark_at-row ks owner h.may.tree.ascend h.above) ∙ e) in
            let other = h.may.tree.edges p t h.may.parent in
            let n = ap (λ (x : Tag). x.0) h.above_tag in
            let a = edge.older in
            let b = other.older in
            omega (arith, a, b, n)

    pub still_owned : IsSome (owner_at (owned_by owner (rows_in moved) owners) row)
    still_owned =
        subst IsSome (sym (owned_by-other owner (rows_in moved) owners row not_own ∙ (linked row owner).1 (record { within = h.above; parent = its_parent ∙ ap Some (sym h.above_tag) }))) refl

-- ---- one of those that are handed over

pub rows_in-push : (moved : List Moved) (m : Moved) → rows_in (moved ++ m ∷ []) ≡ rows_in moved ++ m.row ∷ []
rows_in-push moved m = map-append (λ (j : Moved). j.row) moved (m ∷ [])

still_may : (rows o : ℕ) (owners : List (Option ℕ)) (c i : ℕ) → MayMove rows o owners c → MayMove rows o (set owners i (Some o)) c
still_may rows o owners c i h = record {
  within = h.within;
  slot = subst (λ n. c < n) (sym (length-set owners i (Some o))) h.slot;
  owned =
      ⊎_elim {C = IsSome (owner_at (set owners i (Some o)) c)} (λ (e : c ≡ i). subst IsSome (sym (subst (λ j. owner_at (set owners j (Some o)) c ≡ Some o) e (get_or-set_same owners c (Some o) None h.slot))) refl)
      (λ (n : c ≢ i). subst IsSome (sym (get_or-set_other owners i c (Some o) None n)) h.owned)
      (cases_eq c i);
  other = h.other;
}

pub all_still_may : (rows o : ℕ) (owners : List (Option ℕ)) (cs : List ℕ) (i : ℕ) → AllByRecursion (MayMove rows o owners) cs → AllByRecursion (MayMove rows o (set owners i (Some o))) cs
all_still_may rows o owners cs i h = ByRecursion-weaker (MayMove rows o owners) (MayMove rows o (set owners i (Some o))) (λ c k. still_may rows o owners c i k) cs h
