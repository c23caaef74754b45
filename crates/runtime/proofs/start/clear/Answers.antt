-- `runtime::start::clear` meets its contract.
use Prim.Native.Nat.{ℕ, ◌≤◌}
use mathlib.Core.Path.{◌≡◌, ap, sym, ◌∙◌}
use mathlib.Core.List.{List, ◌++◌}
use native.Mathlib.Omega.{arith}
use borrow.Author.Rules.{rules}
use lib.ListN.{drop, length}
use lib.Seq.{length-take-le, sets}
use Rattle.runtime.proofs.StartLaws.{room_zeroed, view-zeroed, zeros, zeros_front}
use Rattle.runtime.proofs.start.clear.Goals as goal

pub returns : goal.returns
returns c =
    let k = c.args.k in
    let w = c.args.t.now in
    let p = c.args.p.now in
    let n = c.words_needed.result in
    let h : n ≤ length w = omega (arith, c.words_needed.ensures, c.requires.words) in
    let m = length-take-le n w h in
    let f : c.fill.new.self ≡ zeros n = search (rules, m) in
    let z : c.fill.new.self ++ drop n w ≡ sets w 0 (zeros n) = ap (λ (x : List ℕ). x ++ drop n w) f ∙ sym (zeros_front w n h) in
    rw (z, c.words_needed.ensures, c.zero.ensures, c.bytes_needed.ensures) (record { is = view-zeroed k w p c.requires; room = room_zeroed k w p c.requires })
