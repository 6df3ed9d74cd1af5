use Rattle.std.proofs.Common.{◌≡◌, ◌∙◌, ◌^◌, ◌<◌, ◌++◌, ℕ, arith, ap, length}
use Rattle.std.specs.Int.{to_be_bytes, w32}
use Rattle.xa_calls.specs.Xid.{Parts, wire, xid_in}
use Rattle.command_line.proofs.Spelled.{read_as}
use Rattle.command_line.proofs.spelling.xid_of.Goals as goal

pub returns : goal.returns
returns c =
    let p : Parts = record { format = c.args.format; global = c.args.global.now; branch = c.args.branch.now } in
    let format_fits : c.args.format < 2 ^ 32 = c.ranges.format.fits in
    let global_is : c.in-Ok.global_length ≡ length c.args.global.now = grind (arith, c.in-Ok.ensures) in
    let branch_is : c.in-Ok-try_from.branch_length ≡ length c.args.branch.now = grind (arith, c.in-Ok-try_from.ensures) in
    let global_fits : length c.args.global.now < 2 ^ 32 = grind (arith, c.in-Ok.ensures) in
    let branch_fits : length c.args.branch.now < 2 ^ 32 = grind (arith, c.in-Ok-try_from.ensures) in
    let written : c.in_ok-bytes.bytes.items ≡ wire p =
    c.in_ok-bytes.ensures
    ∙ ap (λ (n : ℕ). to_be_bytes w32 c.args.format ++ (to_be_bytes w32 n ++ (to_be_bytes w32 c.in-Ok-try_from.branch_length ++ (c.args.global.now ++ c.args.branch.now)))) global_is
    ∙ ap (λ (n : ℕ). to_be_bytes w32 c.args.format ++ (to_be_bytes w32 (length c.args.global.now) ++ (to_be_bytes w32 n ++ (c.args.global.now ++ c.args.branch.now)))) branch_is in
    c.ok.ensures.value ∙ c.read.ensures.value ∙ ap xid_in (c.deref.ensures.value ∙ written) ∙ read_as p format_fits global_fits branch_fits
