-- A modeller without bodies: every call is done and changes nothing. And that it is what is asked of
-- a modeller.
use Rattle.std.proofs.Common.{◌≡◌, Some, None, IsSome, Ok, inl, subst, sym, refl, ◌∙◌}
use Rattle.std.specs.FinMap.{empty, get, get-empty}
use Rattle.pk_base.specs.declared.tag.Tag.{Tag}
use Rattle.pk_base.specs.declared.entity.Entity.{Entity}
use Rattle.pk_base.specs.declared.act.Reply.TheVariants.{Done}
use Rattle.pk_model.specs.Maps.{EntityMap, tag_cmp}
use Rattle.pk_model.specs.Modelling.{Modelling, IsModeller, Outcome}
use Rattle.pk_model.specs.VertexBodies.{IsClosed}

-- nothing is changed
abbrev pub unchanged : EntityMap → Outcome
unchanged m = record { map = m; reply = Done }

abbrev pub no_bodies : Modelling
no_bodies = record {
  sound = IsClosed;
  cost = λ m c. 0;
  changes = λ m c. 0;
  list = λ m c. 0;
  step = λ m c tags. Ok (unchanged m);
}

abbrev no_map : EntityMap
no_map = empty

none_there : (t : Tag) (e : Entity) → get no_map t ≡ Some e → ⊥
none_there t e h = let none : None ≡ Some e = sym (get-empty tag_cmp t) ∙ h in cc

pub no_bodies-IsModeller : IsModeller no_bodies
no_bodies-IsModeller = record {
  empty = record {
    names = λ t e h. absurd (none_there t e h);
    owners = λ t e h. absurd (none_there t e h);
  };
  names = λ m closed. closed.names;
  owners = λ m closed. closed.owners;
  keeps = λ m c tags o may is.
      let e : unchanged m ≡ o = cc in
      subst (λ (x : Outcome). IsClosed x.map) e may.sound;
  keys = λ m c tags o may is t live.
      let e : unchanged m ≡ o = cc in
      inl (subst (λ (x : Outcome). IsSome (get x.map t)) (sym e) live);
  alike = λ m c tags other e _ _ is. absurd (cc);
  free = λ m c tags e _ is. refl;
}
