-- What is performed of a call, from what its own function requires and promises.
use Rattle.std.proofs.Common.{◌≡◌, ℕ, zero, suc, ◌+◌, ◌≤◌, ⊎_elim, List, [], ◌∷◌, ◌++◌, length, take, Ok, Err, refl, sym, ap, subst, ◌∙◌, arith}
use Rattle.std.specs.Prelude.{Contains, IsOk}
use Rattle.std.proofs.lemmas.List.Elements.{Contains-append_cases, Contains-append_right}
use Rattle.pk_base.specs.Building.{Building}
use Rattle.pk_base.specs.declared.act.Reply.{Reply}
use Rattle.pk_base.specs.declared.act.Reply.TheVariants.{Made}
use Rattle.pk_base.specs.declared.call.Call.{Call}
use Rattle.pk_base.specs.declared.tag.Tag.{Tag}
use Rattle.pk_model.specs.Maps.{EntityMap}
use Rattle.pk_model.specs.Modelling.{Outcome}
use Rattle.entity_store.specs.Modeller.{MayPerform, Performs}
use Rattle.entity_store.specs.NextTags.{TagsView, left}
use Rattle.entity_store.specs.Store.{StoreView}
use Rattle.solid_model.specs.Items.{Shape}
use Rattle.solid_model.specs.Rows.{Row, cost_of, tells}
use Rattle.solid_model.specs.Rows.Effect.{Makes, Changes, Tells}
use Rattle.solid_model.specs.Links.{links}
use Rattle.solid_model.specs.Shapes.{shape_of}
use Rattle.solid_model.specs.Calls.{row_of}
use Rattle.solid_model.specs.Room.{puts_of, tags_changed, tags_put}
use Rattle.solid_model.proofs.Room.{length-tags_put}
use Rattle.entity_store.proofs.Room.{puts-none, puts-wider, records-of, room-of_length, room-part}
use Rattle.list_facts.proofs.Elements.{Contains-take, not_in_nil}
use Rattle.solid_model.specs.Euler.{list_of, step_by}
use Rattle.solid_calls.specs.Pairs.{HasDone, HasTags, MayDo, Takes, reached, row_on}
use Rattle.solid_calls.proofs.NextTags.{takes-none}
use Rattle.modeller.specs.Euler.{euler}
use Rattle.modeller.specs.Replies.{reply_of}
use Rattle.solid_calls.proofs.RowKinds.{IsChanging, IsPlain, cost-changing}

-- ---- what is asked

row-goes : (m : EntityMap) (tags : List Tag) (row : Row) → IsOk (step_by m tags row) → IsOk row
row-goes m tags (Ok effect) h = refl
row-goes m tags (Err e) h = absurd (cc)

module _ (s : StoreView) (c : Call) (tags : TagsView) (out : Building Tag) (may : MayPerform euler s c tags out) where
  goes : IsOk (row_on s.state.map c)
  goes = row-goes s.state.map (left tags) (row_on s.state.map c) may.goes

  pub may-do : MayDo s c (left tags)
  may-do =
      let S : Shape = shape_of s.state.map in
      record {
        sound = may.asked.sound;
        goes = goes;
        room = room-of_length s.recording (tags_put S c (left tags)) (omega (arith, length-tags_put S c (left tags), may.changes));
      }

  list-cost : (row : Row) → cost_of row ≤ list_of row
  list-cost (Ok (Makes k reaches)) = omega arith
  list-cost (Ok (Changes other)) = omega arith
  list-cost (Ok (Tells reply)) = omega arith
  list-cost (Err e) = omega arith

  pub has-tags : HasTags s (cost_of (row_on s.state.map c)) tags out
  has-tags = record {
    enough = may.asked.enough;
    ascend = may.asked.ascend;
    free = may.asked.free;
    owned = may.owned;
    spare = omega (arith, list-cost (row_on s.state.map c), may.list);
  }

  -- there is room for what is listed
  pub has-room : list_of (row_on s.state.map c) ≤ out.spare
  has-room = may.list

  -- what is told is performed: nothing changes, and no tag is taken
  pub performs-told : (reply : Reply) → row_on s.state.map c ≡ tells reply → Performs euler s c tags reply s tags
  performs-told reply row =
      let m = s.state.map in
      let o : Outcome = record { map = m; reply = reply } in
      let free : cost_of (row_on m c) ≡ 0 = ap cost_of row in
      record {
        outcome = o;
        steps = ap (step_by m (left tags)) row;
        replies = refl;
        state = refl;
        takes = subst (λ n. tags ≡ record tags { used = tags.used + n }) (sym free) (takes-none tags out).taken;
        records = records-of [] (puts_of (shape_of m) c) s s (puts-none [] s) (omega arith);
      }

-- ---- what is done

length-taken : (n : ℕ) (ts : List Tag) → n ≤ length ts → 1 ≤ n → reply_of (take n ts) ≡ Made (take n ts)
length-taken n [] h some = absurd (omega arith)
length-taken n (t ∷ ts) h some = some_taken n t ts some
  where
    some_taken : (n : ℕ) (t : Tag) (ts : List Tag) → 1 ≤ n → reply_of (take n (t ∷ ts)) ≡ Made (take n (t ∷ ts))
    some_taken zero t ts h = absurd (omega arith)
    some_taken (suc n) t ts h = refl

-- the outcome of the row is the map that it reaches, and the tags that it takes
outcome-is : (m : EntityMap) (tags : List Tag) (row : Row) → IsPlain row → IsOk row → cost_of row ≤ length tags
    → step_by m tags row ≡ Ok (record { map = links (reached (shape_of m) tags row); reply = reply_of (take (cost_of row) tags) })
outcome-is m tags (Ok (Makes k reaches)) plain goes enough = ap (λ (r : Reply). Ok (record { map = links (reaches tags); reply = r })) (sym (length-taken k tags enough plain))
outcome-is m tags (Ok (Changes other)) plain goes enough = refl
outcome-is m tags (Ok (Tells reply)) plain goes enough = absurd plain
outcome-is m tags (Err e) plain goes enough = absurd (cc)

pub performs : (old new : StoreView) (c : Call) (tags tags' : TagsView) (out out' : Building Tag) (reply : Reply) → MayPerform euler old c tags out → IsPlain (row_on old.state.map c)
    → HasDone old c (left tags) new → Takes (cost_of (row_on old.state.map c)) tags out tags' out' → reply ≡ reply_of out'.items → Performs euler old c tags reply new tags'
performs old new c tags tags' out out' reply may plain done takes replies =
    let m = old.state.map in
    let row = row_on m c in
    let asked = has-tags old c tags out may in
    let o : Outcome = record { map = links (reached (shape_of m) (left tags) row); reply = reply_of (take (cost_of row) (left tags)) } in
    record {
      outcome = o;
      steps = outcome-is m (left tags) row plain (may-do old c tags out may).goes asked.enough;
      replies = replies ∙ ap reply_of (takes.lists ∙ ap (λ ts. ts ++ take (cost_of row) (left tags)) may.empty);
      state = done.state;
      takes = takes.taken;
      records = records-of (tags_put (shape_of m) c (left tags)) (puts_of (shape_of m) c) old new done.puts (length-tags_put (shape_of m) c (left tags));
    }

reached-changing : (S : Shape) (tags other : List Tag) (row : Row) → IsChanging row → reached S tags row ≡ reached S other row
reached-changing S tags other (Ok (Makes k reaches)) h = absurd h
reached-changing S tags other (Ok (Changes o)) h = refl
reached-changing S tags other (Ok (Tells reply)) h = absurd h
reached-changing S tags other (Err e) h = refl

-- what a call may put without tags, it may put with any
put-without : (S : Shape) (c : Call) (tags : List Tag) (t : Tag) → Contains (tags_put S c []) t → Contains (tags_put S c tags) t
put-without S c tags t h =
    let n : ℕ = cost_of (row_of S c) in
    ⊎_elim (λ (l : Contains (take n []) t). absurd (not_in_nil t (Contains-take n [] t l)))
    (λ (r : Contains (tags_changed S c) t). Contains-append_right (take n tags) (tags_changed S c) t r)
    (Contains-append_cases (take n []) (tags_changed S c) t h)

-- ---- a call, as its own function has it

module _ (c d : Call) (is : c ≡ d) where
  pub may-as : (s : StoreView) (tags : List Tag) → MayDo s c tags → MayDo s d tags
  may-as s tags may = subst (λ x. MayDo s x tags) is may

  pub may-without : (s : StoreView) (tags : List Tag) → MayDo s c tags → MayDo s d []
  may-without s tags may =
      let here = may-as s tags may in
      let S : Shape = shape_of s.state.map in
      record {
        sound = here.sound;
        goes = here.goes;
        room = room-part s.recording (tags_put S d tags) (tags_put S d []) here.room (put-without S d tags);
      }

  pub done-as : (old new : StoreView) (tags : List Tag) → HasDone old d tags new → HasDone old c tags new
  done-as old new tags done = subst (λ x. HasDone old x tags new) (sym is) done

  pub done-changing : (old new : StoreView) (tags : List Tag) → IsChanging (row_on old.state.map d) → HasDone old d [] new → HasDone old c tags new
  done-changing old new tags changing done =
      let S : Shape = shape_of old.state.map in
      done-as old new tags (record {
        state = done.state ∙ ap (λ R. record old.state { map = links R }) (reached-changing S [] tags (row_on old.state.map d) changing);
        sound = done.sound;
        puts = puts-wider (tags_put S d []) (tags_put S d tags) old new done.puts (put-without S d tags);
      })

  pub takes-changing : (m : EntityMap) (tags : TagsView) (out : Building Tag) → IsChanging (row_on m d) → Takes (cost_of (row_on m c)) tags out tags out
  takes-changing m tags out changing =
      let cost : cost_of (row_on m c) ≡ 0 = ap (λ x. cost_of (row_on m x)) is ∙ cost-changing (row_on m d) changing in
      subst (λ n. Takes n tags out tags out) (sym cost) (takes-none tags out)

  pub tags-as : (s : StoreView) (tags : TagsView) (out : Building Tag) → HasTags s (cost_of (row_on s.state.map c)) tags out → HasTags s (cost_of (row_on s.state.map d)) tags out
  tags-as s tags out has = subst (λ x. HasTags s (cost_of (row_on s.state.map x)) tags out) is has

  pub takes-as : (m : EntityMap) (tags tags' : TagsView) (out out' : Building Tag) → Takes (cost_of (row_on m d)) tags out tags' out' → Takes (cost_of (row_on m c)) tags out tags' out'
  takes-as m tags tags' out out' takes = subst (λ x. Takes (cost_of (row_on m x)) tags out tags' out') (sym is) takes
