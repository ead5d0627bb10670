use Rattle.std.proofs.Common.{◌≡◌, ◌++◌, take}
use Rattle.std.specs.List.{flat_map}
use Rattle.script_text.specs.Text.{pair_fields}
use Rattle.script_text.proofs.printing.fields.write_corners.Given as goal

abbrev pub invariant-loop-corner : goal.invariant-loop-corner
invariant-loop-corner l = l.out ≡ l.initial.out ++ flat_map pair_fields (take l.corner-index l.corners)
