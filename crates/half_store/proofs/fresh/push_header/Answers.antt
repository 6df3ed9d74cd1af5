use Rattle.std.proofs.Common.{◌≡◌, ◌++◌, rules}
use Rattle.std.specs.Int.{w32, w64, to_be_bytes}
use Rattle.half_store.specs.Header.{layout_word}
use Rattle.half_store.proofs.Written.{joined_five}
use Rattle.half_store.proofs.fresh.push_header.Goals as goal

pub returns : goal.returns
returns c =
    let a : c.extend_from_slice.new.self.items ≡ c.args.bytes.now.items ++ to_be_bytes w64 c.args.header.generation = search rules in
    let b : c.extend_from_slice-2.new.self.items ≡ c.extend_from_slice.new.self.items ++ to_be_bytes w32 c.args.header.pages = search rules in
    let d : c.extend_from_slice-3.new.self.items ≡ c.extend_from_slice-2.new.self.items ++ to_be_bytes w32 c.args.header.first_catalogue = search rules in
    let e : c.extend_from_slice-4.new.self.items ≡ c.extend_from_slice-3.new.self.items ++ to_be_bytes w32 c.args.header.catalogue_pages = search rules in
    let f : c.extend_from_slice-5.new.self.items ≡ c.extend_from_slice-4.new.self.items ++ to_be_bytes w32 (layout_word c.args.header.layout) = search rules in
    joined_five c.args.bytes.now.items c.extend_from_slice.new.self.items c.extend_from_slice-2.new.self.items c.extend_from_slice-3.new.self.items c.extend_from_slice-4.new.self.items c.extend_from_slice-5.new.self.items
    (to_be_bytes w64 c.args.header.generation) (to_be_bytes w32 c.args.header.pages) (to_be_bytes w32 c.args.header.first_catalogue) (to_be_bytes w32 c.args.header.catalogue_pages) (to_be_bytes w32 (layout_word c.args.header.layout)) a b d e f
