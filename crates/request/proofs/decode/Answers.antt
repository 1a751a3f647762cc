-- `request::decode` meets its contract.
-- Assumes nothing.
use Rattle.request.proofs.Loading.{whole_ends, decoded}
use Rattle.request.proofs.decode.Goals as goal

pub invariant_of-laid : goal.invariant_of-laid
invariant_of-laid c = record { ends = whole_ends _ _ c.requires }

pub returns : goal.returns
returns c = decoded _ _ _ c.requires c.fill.ensures c.fill-2.ensures c.fill-3.ensures c.fill-4.ensures
