-- `greedy_links::enter` meets its contract: the two parts of the chain's key, and then one link more. Assumes nothing.
use native.Mathlib.Omega.{arith}
use Rattle.greedy_links.proofs.KeyLaws.{keys_fit}
use Rattle.greedy_links.proofs.enter.Goals as goal

pub chain_key-chain-requires : goal.chain_key-chain-requires
chain_key-chain-requires c =
    let q = c.args.constraint in
    let fit = keys_fit q.owner q.kind c.requires.2 in
    let b = c.chain_bidder.ensures in
    let l = c.chain_slot.ensures in
    (omega arith, omega arith)

pub link-requires : goal.link-requires
link-requires c =
    let p = c.requires in
    let q = c.args.constraint in
    let fit = keys_fit q.owner q.kind p.2 in
    let chain = c.chain_key-chain.ensures in
    let b = c.chain_bidder.ensures in
    let l = c.chain_slot.ensures in
    (p.0, p.1, omega arith, p.3)
