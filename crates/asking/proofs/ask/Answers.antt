-- `asking::ask` meets its contract: one case for each answer, and the walk's outcome where none is refused.
use Rattle.std.proofs.Common.{get_or, arith, ◌<◌, ◌≤◌, length, ap, ◌∙◌, List}
use Rattle.std.proofs.lemmas.Bool.Decides.{nat_tests}
use Rattle.sets.specs.Whole.{rows}
use Rattle.graph.specs.declared.Order.{Order}
use Rattle.graph.specs.Graph.{no_order}
use Rattle.graph.proofs.Counted.{get_d_any}
use Rattle.outcome.proofs.Showing.{ask_number, ask_short}
use Rattle.request.specs.Value.{request_in}
use Rattle.words.proofs.Made.{words_made}
use Rattle.asking.proofs.Shows.{shown_nodes, route_shown}
use Rattle.asking.proofs.ask.Goals as goal

pub returns-in_default : goal.returns-in_default
returns-in_default c =
    let long = ap length c.deref.ensures.0 in
    let none = c.in_default.ensures.lookup.0 in
    let past : length c.args.g.now.orders.items ≤ c.args.order = grind (arith, nat_tests) in
    λ s reads. rw c.at.ensures (ask_number s (request_in c.args.g.now) c.args.order reads c.args.route.now past)

pub returns-then-route-lt-NODES : goal.returns-then-route-lt-NODES
returns-then-route-lt-NODES c =
    let long = ap length c.deref.ensures.0 in
    let some = c.in-Some.ensures.lookup.0 in
    let there : c.args.order < length c.args.g.now.orders.items = grind (arith, nat_tests) in
    λ s reads. rw c.at-then-route-lt-NODES.ensures
    (ask_short s (request_in c.args.g.now) c.args.order reads c.args.route.now there (omega arith))

pub returns : goal.returns
returns c =
    let long = ap length c.deref.ensures.0 in
    let some = c.in-Some.ensures.lookup in
    let there : c.args.order < length c.args.g.now.orders.items = grind (arith, nat_tests) in
    let words = words_made c.args.g.now c.requires.proper.sound (rows c.succ_of-succ.result) (rows c.fits_of-fits.result)
    (λ p q. rw (← c.deref-2.ensures.0) (c.succ_of-succ.ensures p q))
    (λ p q. rw (← c.deref-3.ensures.0, ← c.deref-4.ensures.0) (c.fits_of-fits.ensures p q)) in
    let asked = some.1 ∙ ap (λ (l : List Order). get_or l c.args.order c.in-Some.asked.now) c.deref.ensures.0
    ∙ get_d_any c.args.g.now.orders.items c.args.order c.in-Some.asked.now no_order there in
    let nodes = shown_nodes c.open_route-shown.result c.unwrap_or_default-nodes.result c.unwrap_or_default-nodes.ensures in
    let copied = c.copy_from_slice.ensures.after ∙ c.deref-5.ensures.0 in
    rw c.done.ensures
    (route_shown c.args.g.now c.args.order there (omega arith) words c.in-Some.asked.now asked c.unwrap_or_default-nodes.result.items
    (rw (nodes, ← c.from-first.ensures, ← c.from-second.ensures) c.open_route-shown.ensures.asked) c.len-length.ensures.value (cc))
