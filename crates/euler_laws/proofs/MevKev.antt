-- mev, and then kev.
use Rattle.std.proofs.Common.{◌≡◌, ◌+◌, ◌≤◌, ◌⊎◌, inl, inr, List, [], ◌∷◌, ◌++◌, drop, length, Option, Some, None, Ok, refl, sym, ap, subst, ◌∙◌, arith}
use Rattle.std.specs.Prelude.{T, IsOk, unwrap_or, Contains}
use Rattle.std.specs.List.{AllByRecursion}
use Rattle.pk_base.specs.declared.tag.Tag.{Tag}
use Rattle.pk_base.specs.declared.call.Call.TheVariants as call
use Rattle.pk_base.specs.declared.entity.Triple.{Triple}
use Rattle.pk_model.specs.Apart.{NoRepeats}
use Rattle.pk_model.specs.Maps.{EntityMap}
use Rattle.pk_model.specs.Tags.{TagsAscend, tag_at}
use Rattle.pk_model.proofs.TagLists.{NoRepeats-take}
use Rattle.list_facts.proofs.Each.{ByRecursion-take}
use Rattle.solid_model.specs.Items.{Item, Shape, item_at, ◌with◌}
use Rattle.solid_model.specs.Items.Item.{Fin, Edge, Loop, Vertex}
use Rattle.solid_model.specs.Deaths.{◌without◌}
use Rattle.solid_model.specs.Rings.{first_tag, from_least, next_in, ring_of, ring_or_lone}
use Rattle.solid_model.specs.Rows.{Row, changes, cost_of}
use Rattle.solid_model.specs.Places.{End, PlacedFin, end_at, fin_at}
use Rattle.solid_model.specs.Shapes.{shape_of}
use Rattle.solid_model.specs.Mev.{mev}
use Rattle.solid_model.specs.Kev.{kev}
use Rattle.solid_model.proofs.lists.Cycles.{written-itself}
use Rattle.solid_model.proofs.lists.Neighbours.{once-last}
use Rattle.solid_model.proofs.lists.Turned.{Turned, turned-back, turned-least, turned-once}
use Rattle.solid_sound.proofs.shapes.Edits.{Edits, live-none_of, written}
use Rattle.solid_sound.proofs.shapes.Lookups.{Items}
use Rattle.solid_sound.proofs.shapes.Reading.{fins-once}
use Rattle.solid_sound.proofs.edges.Ends.{EndIn, end-well}
use Rattle.solid_sound.proofs.rows.RowKeeps.{IsWell, well-shape}
use Rattle.solid_sound.proofs.rows.KeptMev.{mev-keeps}
use Rattle.solid_calls.specs.Pairs.{reached, row_on}
use Rattle.solid_calls.proofs.Kept.{reached-well}
use Rattle.solid_edits.proofs.Going.{goes-on}
use Rattle.euler_make.proofs.MevFound.{mev-cost, mev-row, strut_items}
use Rattle.euler_kill.proofs.KevFound.{kev-row, kev_changes}
use Rattle.euler_laws.specs.Both.{GivesBack, MayFollow}
use Rattle.euler_laws.proofs.GivenBack.{given-back}
use Rattle.euler_laws.proofs.Laws.{ascend-once, free-items, gives-back}
use Rattle.euler_laws.proofs.Placed.{end-item, fin-placed, owns-none, placed}
use Rattle.euler_laws.proofs.TurnedLists.{turned-twice}

-- the strut of these four tags, made at the end u of S, and killed again
module _ (S : Shape) (well : IsWell S) (u : End) (E : EndIn S u) (at : Triple) (w e n m : Tag) (once : NoRepeats (w ∷ e ∷ n ∷ m ∷ [])) (free : AllByRecursion (λ t. item_at S t ≡ None) (w ∷ e ∷ n ∷ m ∷ [])) where
  abbrev xs : Items
  xs = strut_items u at w e n m

  abbrev pub strutted : Shape
  strutted = S with xs

  abbrev ring : List Tag
  ring = n ∷ m ∷ u.fins

  change : Edits S strutted xs []
  change = written S xs well.written.ascends (once-last (w ∷ e ∷ n ∷ m ∷ []) u.loop_ once (live-none_of S (w ∷ e ∷ n ∷ m ∷ []) u.loop_ _ free E.loop_is))

  pub loop_is : item_at strutted u.loop_ ≡ Some (Loop u.face (from_least ring) None)
  loop_is = change.news u.loop_ _ (4, omega arith, refl)

  pub n_is : item_at strutted n ≡ Some (Fin m e u.vertex)
  n_is = change.news n _ (2, omega arith, refl)

  pub m_is : item_at strutted m ≡ Some (Fin n e w)
  m_is = change.news m _ (3, omega arith, refl)

  module _ (made : IsWell strutted) where
    ring_once : NoRepeats ring
    ring_once = turned-once (from_least ring) ring (turned-back ring (from_least ring) (turned-least ring)) (fins-once strutted made.written made.sound u.loop_ u.face (from_least ring) None loop_is)

    turned_m : Turned (m ∷ u.fins ++ n ∷ []) ring
    turned_m = record { pre = m ∷ u.fins; post = n ∷ []; here = refl; there = refl }

    fin_n : PlacedFin
    fin_n = placed strutted n m e u.vertex u.loop_ u.face (m ∷ u.fins)

    fin_m : PlacedFin
    fin_m = placed strutted m n e w u.loop_ u.face (u.fins ++ n ∷ [])

    killed : kev strutted n ≡ changes (strutted with (u.loop_, ring_or_lone u.face u.fins u.vertex) ∷ [] without n ∷ m ∷ e ∷ w ∷ [])
    killed = kev-row strutted n (placed strutted n m e u.vertex u.loop_ u.face (m ∷ u.fins)) (placed strutted m n e w u.loop_ u.face (u.fins ++ n ∷ []))
        (fin-placed strutted made n m e u.vertex u.loop_ u.face (from_least ring) (m ∷ u.fins) None n_is loop_is (turned-least ring) ring_once)
        (fin-placed strutted made m n e w u.loop_ u.face (from_least ring) (u.fins ++ n ∷ []) None m_is loop_is
        (turned-twice (m ∷ u.fins ++ n ∷ []) ring (from_least ring) turned_m (turned-least ring)) (turned-once ring (m ∷ u.fins ++ n ∷ []) (turned-back (m ∷ u.fins ++ n ∷ []) ring turned_m) ring_once))
        (ap (λ ts. unwrap_or (first_tag (drop 1 ts)) n) (written-itself n (m ∷ u.fins)))

    pub strut-back : kev strutted n ≡ changes S
    strut-back = killed ∙ ap changes (given-back S xs ((u.loop_, ring_or_lone u.face u.fins u.vertex) ∷ []) (n ∷ m ∷ e ∷ w ∷ []) well.written.ascends (tt, tt)
        (free.1.1.0, (free.1.1.1.0, (free.1.0, (free.0, tt)))) (end-item S well u E, tt)
        (inl (3, omega arith, refl), (inl (2, omega arith, refl), (inl (0, omega arith, refl), (inl (1, omega arith, refl), (inr (0, omega arith, refl), tt)))))
        (owns-none S well (n ∷ m ∷ e ∷ w ∷ []) (free.1.1.0, (free.1.1.1.0, (free.1.0, (free.0, tt))))))

-- the law, for tags of which the first four are known
mev-kev_at : (m : EntityMap) (end : Tag) (at : Triple) (t0 t1 t2 t3 : Tag) (rest : List Tag) → MayFollow m (call.Mev end at) 4 (t0 ∷ t1 ∷ t2 ∷ t3 ∷ rest) → GivesBack m (call.Mev end at) (call.Kev t2) (t0 ∷ t1 ∷ t2 ∷ t3 ∷ rest)
mev-kev_at m end at t0 t1 t2 t3 rest may =
    let S = shape_of m in
    let tags = t0 ∷ t1 ∷ t2 ∷ t3 ∷ rest in
    let well = well-shape m may.sound in
    let free = free-items m may.sound tags may.free in
    let once : NoRepeats (t0 ∷ t1 ∷ t2 ∷ t3 ∷ []) = NoRepeats-take 4 tags (ascend-once tags may.ascend) in
    let new : AllByRecursion (λ t. item_at S t ≡ None) (t0 ∷ t1 ∷ t2 ∷ t3 ∷ []) = ByRecursion-take (λ t. item_at S t ≡ None) 4 tags free in
    let g = goes-on (end_at S end) _ may.goes in
    let u : End = g.found in
    let E = end-well S well end (item_at S end) refl u g.is in
    let R = strutted S well u E at t0 t1 t2 t3 once new in
    let is : reached S tags (mev S end at) ≡ R = ap (reached S tags) (mev-row S end at u g.is may.goes) in
    let made : IsWell R = subst IsWell is (reached-well S tags (mev S end at) well (let cost = mev-cost S end at may.goes in let enough = may.enough in omega (arith, cost, enough)) (mev-keeps S tags end at well may.ascend free)) in
    let back = strut-back S well u E at t0 t1 t2 t3 once new made in
    gives-back m (call.Mev end at) (call.Kev t2) tags R may.sound is made (subst IsOk (sym back) refl) (λ more. ap (reached R more) back)

pub mev-kev : (m : EntityMap) (end : Tag) (at : Triple) (tags : List Tag) → MayFollow m (call.Mev end at) 4 tags → GivesBack m (call.Mev end at) (call.Kev (tag_at tags 2)) tags
mev-kev m end at [] may = absurd (let h = may.enough in omega (arith, h))
mev-kev m end at (a ∷ []) may = absurd (let h = may.enough in omega (arith, h))
mev-kev m end at (a ∷ b ∷ []) may = absurd (let h = may.enough in omega (arith, h))
mev-kev m end at (a ∷ b ∷ c ∷ []) may = absurd (let h = may.enough in omega (arith, h))
mev-kev m end at (a ∷ b ∷ c ∷ d ∷ rest) may = mev-kev_at m end at a b c d rest may
