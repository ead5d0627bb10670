-- How many tags a call may put.
use Rattle.std.proofs.Common.{ℕ, ◌≤◌, List, length, take, length-append, length-take, arith}
use Rattle.pk_base.specs.declared.tag.Tag.{Tag}
use Rattle.pk_base.specs.declared.call.Call.{Call}
use Rattle.solid_model.specs.Items.{Shape}
use Rattle.solid_model.specs.Rows.{cost_of}
use Rattle.solid_model.specs.Calls.{row_of}
use Rattle.solid_model.specs.Room.{puts_of, tags_changed, tags_put}

pub length-tags_put : (S : Shape) (c : Call) (tags : List Tag) → length (tags_put S c tags) ≤ puts_of S c
length-tags_put S c tags =
    let n : ℕ = cost_of (row_of S c) in
    omega (arith, length-append (take n tags) (tags_changed S c), length-take n tags)
