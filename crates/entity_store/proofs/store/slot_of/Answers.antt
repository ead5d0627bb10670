use Rattle.std.proofs.Common.{Ok, Err, sym}
use Rattle.entity_store.proofs.OwnerLinks.{place-found}
use Rattle.entity_store.proofs.Places.{found_block, tag_at_place, not_owned}
use Rattle.entity_store.proofs.store.slot_of.Goals as goal

pub returns-in-Ok-clause-place : goal.returns-in-Ok-clause-place
returns-in-Ok-clause-place c =
    let found = found_block c.args.blocks.now c.args.tag (Ok c.in-Ok.place) c.requires.ascending (rw c.block.ensures at c.in-Ok.ensures.position) in
    tag_at_place c.args.blocks.now c.args.tag c.in-Ok.place found.0 found.1

pub returns-in-Ok-clause-value : goal.returns-in-Ok-clause-value
returns-in-Ok-clause-value c =
    let found = found_block c.args.blocks.now c.args.tag (Ok c.in-Ok.place) c.requires.ascending (rw c.block.ensures at c.in-Ok.ensures.position) in
    sym (place-found c.args.blocks.now c.args.tag c.in-Ok.place c.requires.ascending found.0 found.1)

pub returns-in-Err-clause-variant : goal.returns-in-Err-clause-variant
returns-in-Err-clause-variant c =
    let found = found_block c.args.blocks.now c.args.tag (Err c.in-Err.field-0) c.requires.ascending (rw c.block.ensures at c.in-Err.ensures.position) in
    (λ e. cc, λ own. absurd (not_owned c.args.blocks.now c.args.tag c.in-Err.field-0 found.1 found.2 own))
