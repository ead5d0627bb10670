use Rattle.std.proofs.Common.{arith}
use Rattle.queries.proofs.Listed.{listing-begins, listing-ends, listing-more, listing-room}
use Rattle.queries.proofs.listing.list_all.Goals as goal

pub loop-tag-init : goal.loop-tag-init
loop-tag-init g c = listing-begins _ _ _ c.requires.empty c.requires.spare

pub push-requires : goal.push-requires
push-requires g c = omega (arith, listing-room _ _ _ _ _ _ c.loop-tag.invariant c.in-Some.ensures.some)

pub loop-tag-preserved : goal.loop-tag-preserved
loop-tag-preserved g c = listing-more _ _ _ _ _ _ _ _ c.loop-tag.invariant c.in-Some.ensures.some c.push.ensures.items c.push.ensures.spare

pub returns : goal.returns
returns g c = record {
  ascending = c.sort.ensures.ascending;
  same = listing-ends _ _ _ _ _ c.loop-tag.invariant c.in_default.ensures.none c.sort.ensures.same;
}
