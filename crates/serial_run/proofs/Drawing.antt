-- Draws one after another.
use Rattle.std.proofs.Common.{◌≡◌, ℕ, suc, nat_le, Bool, true, false, cond, Option, Some, None, ap}
use Rattle.pk_model.specs.Modelling.{Modelling}
use Rattle.world_core.specs.World.{WorldState}
use Rattle.world_core.specs.Runs.{after_event}
use Rattle.world_core.specs.declared.event.Event.TheVariants as event
use Rattle.serial_run.specs.Serial.{Drawn, by, draws}

-- a world after draws
abbrev pub as_drawn : WorldState → Option ℕ → Drawn
as_drawn w o = record { world = w; spent = o }

one_draw : (K : Modelling) (t p k : ℕ) (w after w' : WorldState) (b : Bool) → cond b (as_drawn after None) (as_drawn w (Some w.blocks.next)) ≡ as_drawn w' None → cond b (draws K t p k after) (as_drawn w (Some w.blocks.next)) ≡ draws K t p k w'
one_draw K t p k w after w' true h = ap (λ (d : Drawn). draws K t p k d.world) h
one_draw K t p k w after w' false h = let no : Some w.blocks.next ≡ None = ap (λ (d : Drawn). d.spent) h in absurd (cc)

-- one draw, which drew a block, and more draws
pub draws-one : (K : Modelling) (t p k : ℕ) (w w' : WorldState) → draws K t p 1 w ≡ record { world = w'; spent = None } → draws K t p (suc k) w ≡ draws K t p k w'
draws-one K t p k w w' h = one_draw K t p k w (after_event K w (by t (event.Draw p))) w' (nat_le w.blocks.next w.blocks.last) h

no_draw : (K : Modelling) (t p k n : ℕ) (w after w' : WorldState) (b : Bool) → cond b (as_drawn after None) (as_drawn w (Some w.blocks.next)) ≡ as_drawn w' (Some n) → cond b (draws K t p k after) (as_drawn w (Some w.blocks.next)) ≡ as_drawn w' (Some n)
no_draw K t p k n w after w' true h = let no : None ≡ Some n = ap (λ (d : Drawn). d.spent) h in absurd (cc)
no_draw K t p k n w after w' false h = h

-- one draw that found no block left is the last
pub draws-spent : (K : Modelling) (t p k n : ℕ) (w w' : WorldState) → draws K t p 1 w ≡ record { world = w'; spent = Some n } → draws K t p (suc k) w ≡ record { world = w'; spent = Some n }
draws-spent K t p k n w w' h = no_draw K t p k n w (after_event K w (by t (event.Draw p))) w' (nat_le w.blocks.next w.blocks.last) h
