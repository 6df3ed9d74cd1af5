use Rattle.std.proofs.Common.{◌≡◌, [], ◌∷◌, ◌++◌, length, rules}
use Rattle.std.specs.Int.{w32, w64, to_be_bytes}
use Rattle.half_store.proofs.Written.{joined}
use Rattle.half_store.proofs.fresh.push_head.Goals as goal

pub returns : goal.returns
returns c =
    let a : c.extend_from_slice.new.self.items ≡ c.args.bytes.now.items ++ to_be_bytes w32 1 = search rules in
    let b : c.extend_from_slice-2.new.self.items ≡ c.extend_from_slice.new.self.items ++ to_be_bytes w64 c.args.size = search rules in
    let d : c.push.new.self.items ≡ c.extend_from_slice-2.new.self.items ++ length c.args.name.now ∷ [] = search rules in
    let e : c.extend_from_slice-3.new.self.items ≡ c.push.new.self.items ++ c.args.name.now = search rules in
    joined c.args.bytes.now.items c.extend_from_slice.new.self.items c.extend_from_slice-2.new.self.items c.push.new.self.items c.extend_from_slice-3.new.self.items
    (to_be_bytes w32 1) (to_be_bytes w64 c.args.size) (length c.args.name.now ∷ []) c.args.name.now a b d e
