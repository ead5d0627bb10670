-- A lamina and a prism of three corners are made where nothing stands.
use Rattle.std.proofs.Common.{◌≡◌, ℕ, zero, suc, ◌+◌, ◌<◌, List, [], None, refl, arith}
use Rattle.std.specs.Prelude.{pos, map}
use Rattle.std.specs.List.{AllByRecursion, range_with_len}
use Rattle.pk_base.specs.Blocks.{tag}
use Rattle.pk_base.specs.declared.tag.Tag.{Tag}
use Rattle.pk_base.specs.declared.call.Call.TheVariants.{Lamina, Prism}
use Rattle.pk_model.specs.Tags.{TagsAscend}
use Rattle.solid_model.specs.Items.{item_at}
use Rattle.solid_model.specs.Lamina.{after_lamina}
use Rattle.solid_model.specs.Prism.{after_prism}
use Rattle.solid_model.specs.Sound.{IsSoundShape, IsWritten}
use Rattle.list_facts.proofs.Each.{ByRecursion-contains}
use Rattle.solid_forms.specs.Reached.{Reaches}
use Rattle.solid_forms.specs.Worked.{three, tags_to, the_lamina, the_prism}

nothing-written : IsWritten []
nothing-written = record { ascends = tt; loops = λ l face fins vertex e. absurd (cc) }

nothing-sound : IsSoundShape []
nothing-sound = record {
  names = record { kinds = λ t x e. absurd (cc); shells = λ b shell e. absurd (cc); bodies = λ s b q e. absurd (cc) };
  placed = λ f mate edge vertex e. absurd (cc);
  mates = record { fins = λ f mate edge vertex e. absurd (cc); edges = λ e body is. absurd (cc) };
  follow = λ l face fins vertex e. absurd (cc);
  lone = λ l face fins vertex e. absurd (cc);
  outer = λ f shell outer e. absurd (cc);
  round = λ v body point e. absurd (cc);
  bodies = record { fins = λ f mate edge vertex e. absurd (cc); lone = λ l face vertex fins e. absurd (cc) };
  attributes = record { owned = λ a owner name value e. absurd (cc); one = λ a b owner name v w e f. absurd (cc) };
  measure = record { formula = λ b shell q e s. absurd (cc); points = λ v body point e. absurd (cc) };
}

range-above : (t a n : ℕ) → t < a → AllByRecursion (λ (u : Tag). t < u.0) (map tag (range_with_len a n))
range-above t a zero h = tt
range-above t a (suc n) h = (h, range-above t (a + 1) n (omega (arith, h)))

range-ascends : (a n : ℕ) → TagsAscend (map tag (range_with_len a n))
range-ascends a zero = tt
range-ascends a (suc n) = (range-above a (a + 1) n (omega arith), range-ascends (a + 1) n)

nothing-live : (ts : List Tag) → AllByRecursion (λ t. item_at [] t ≡ None) ts
nothing-live ts = ByRecursion-contains (λ t. item_at [] t ≡ None) ts (λ t k. refl)

pub lamina-from_nothing : Reaches [] (Lamina (pos 0) three) (tags_to 65 82) the_lamina
lamina-from_nothing = record {
  written = nothing-written;
  sound = nothing-sound;
  ascend = range-ascends 65 18;
  free = nothing-live (tags_to 65 82);
  takes = 18;
  reaches = λ tags. (after_lamina (pos 0) three (record { shape = []; tags = tags })).shape;
  row_is = refl;
  enough = omega arith;
  reached = refl;
}

pub prism-from_nothing : Reaches [] (Prism (pos 0) (pos 1) three) (tags_to 65 109) the_prism
prism-from_nothing = record {
  written = nothing-written;
  sound = nothing-sound;
  ascend = range-ascends 65 45;
  free = nothing-live (tags_to 65 109);
  takes = 45;
  reaches = λ tags. (after_prism (pos 0) (pos 1) three (record { shape = []; tags = tags })).shape;
  row_is = refl;
  enough = omega arith;
  reached = refl;
}
