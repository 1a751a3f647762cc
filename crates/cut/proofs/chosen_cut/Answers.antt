-- `cut::chosen_cut` meets its contract: the edges are linked, the open orders gathered, and the search's answer is the chosen cut.
-- Assumes nothing.
use Rattle.std.proofs.Common.{◌∙◌, arith, length, ap}
use Rattle.std.specs.List.Sorted.{IsPermutation}
use Rattle.sets.specs.Whole.{rows}
use Rattle.words.proofs.Made.{ruling}
use Rattle.cut.specs.Given.{open_of}
use Rattle.cut.proofs.Given.{known, given_starts, given_ends, given_net, given_differ, given_posed, given_chosen}
use Rattle.cut.proofs.chosen_cut.Goals as goal

pub by_ends-ins-requires : goal.by_ends-ins-requires
by_ends-ins-requires c =
    let edges = c.as_slice-edges.ensures in let value = edges.value ∙ c.copied-list.ensures ∙ c.deref-3.ensures.0 in
    (edges.fits, rw value (given_ends (known c.args.g.now c.deref.ensures value edges.fits c.requires)))

pub by_starts-outs-requires : goal.by_starts-outs-requires
by_starts-outs-requires c =
    let edges = c.as_slice-edges.ensures in let value = edges.value ∙ c.copied-list.ensures ∙ c.deref-3.ensures.0 in
    (edges.fits, rw value (given_starts (known c.args.g.now c.deref.ensures value edges.fits c.requires)))

pub near_first-pairs-requires-clause-net : goal.near_first-pairs-requires-clause-net
near_first-pairs-requires-clause-net c =
    let edges = c.as_slice-edges.ensures in let value = edges.value ∙ c.copied-list.ensures ∙ c.deref-3.ensures.0 in
    (rw value (given_net (known c.args.g.now c.deref.ensures value edges.fits c.requires)), c.by_ends-ins.ensures)

pub near_first-pairs-requires-clause-ends : goal.near_first-pairs-requires-clause-ends
near_first-pairs-requires-clause-ends c =
    let edges = c.as_slice-edges.ensures in let value = edges.value ∙ c.copied-list.ensures ∙ c.deref-3.ensures.0 in
    rw (c.deref-5.ensures.0, c.gather-open_orders.ensures, c.deref-4.ensures.0)
    (given_differ (known c.args.g.now c.deref.ensures value edges.fits c.requires) c.open_orders-open.result)

pub invariant_of-net : goal.invariant_of-net
invariant_of-net c =
    let edges = c.as_slice-edges.ensures in let value = edges.value ∙ c.copied-list.ensures ∙ c.deref-3.ensures.0 in
    record { net = (rw value (given_net (known c.args.g.now c.deref.ensures value edges.fits c.requires)), c.by_ends-ins.ensures, c.by_starts-outs.ensures) }

pub search-requires : goal.search-requires
search-requires c =
    let edges = c.as_slice-edges.ensures in let value = edges.value ∙ c.copied-list.ensures ∙ c.deref-3.ensures.0 in
    let moved : IsPermutation (open_of c.args.g.now.orders.items c.open_orders-open.result) c.near_first-pairs.result.items =
    rw (← c.deref-4.ensures.0, ← c.gather-open_orders.ensures, ← c.deref-5.ensures.0) c.near_first-pairs.ensures in
    rw (c.deref-6.ensures.0, value)
    (given_posed (known c.args.g.now c.deref.ensures value edges.fits c.requires) c.open_orders-open.result c.near_first-pairs.result.items moved
    (omega (arith, c.deref-6.ensures.1, ap length c.deref-6.ensures.0)) c.by_ends-ins.result.entries c.by_starts-outs.result.entries
    (rw (← value) c.by_ends-ins.ensures) (rw (← value) c.by_starts-outs.ensures))

pub returns : goal.returns
returns c =
    let edges = c.as_slice-edges.ensures in let value = edges.value ∙ c.copied-list.ensures ∙ c.deref-3.ensures.0 in
    let moved : IsPermutation (open_of c.args.g.now.orders.items c.open_orders-open.result) c.near_first-pairs.result.items =
    rw (← c.deref-4.ensures.0, ← c.gather-open_orders.ensures, ← c.deref-5.ensures.0) c.near_first-pairs.ensures in
    given_chosen (known c.args.g.now c.deref.ensures value edges.fits c.requires) c.open_orders-open.result c.near_first-pairs.result.items moved
    (rows c.fits_of-fits.result) (ruling c.args.g.now (rows c.fits_of-fits.result)
    (λ p q. rw (← c.deref.ensures.0, ← c.deref-2.ensures.0) (c.fits_of-fits.ensures p q))) c.open_orders-open.ensures c.search.result
    (rw (← value) c.search.ensures.made) (rw (← value, ← c.deref-6.ensures.0) c.search.ensures.least)
