use Rattle.std.proofs.Common.{◌≡◌, ◌≤◌, ◌+◌, ◌-◌, ◌++◌, ℕ, length, take, drop, slice_index, ◌∙◌, ap, arith, rules, take_all, length-drop, le_of_eq}
use Rattle.counted_streams.specs.Counts.{source_of}
use Rattle.drda_node.specs.Reading.{size_of}
use Rattle.conversation.proofs.Written.{take_front}
use Rattle.drda_node.proofs.Recording.{received_ready, head_size}
use Rattle.drda_node.proofs.reading.take_ready.Goals as goal

pub returns-clause-takes : goal.returns-clause-takes
returns-clause-takes g c =
    let shown = c.ready.result.now in
    let size = c.number_in-size.result in
    let head = c.in_ok-head.head in
    let part = c.copy_from_slice.new.self in
    let behind = drop size c.args.buffer.now in
    let is_size : size_of head ≡ size = head_size head (slice_index shown 0) (slice_index shown 1) size c.in_ok-head.ensures in
    let within : 6 + size ≤ length shown = search rules in
    let whole : take (length shown - 6) (drop 6 shown) ≡ drop 6 shown = take_all (length shown - 6) (drop 6 shown) (le_of_eq (length-drop 6 shown)) in
    let none : size - 0 ≡ size = omega arith in
    let taken : part ≡ take size (drop 6 shown) =
    c.copy_from_slice.ensures.after ∙ c.in_ok-bytes.ensures.lookup.0.2 ∙ ap (λ (n : ℕ). take n (take (length shown - 6) (drop 6 shown))) none ∙ ap (take size) whole in
    let count : length part ≡ size = search rules in
    let fits : size_of head ≤ length (part ++ behind) = search rules in
    received_ready (g.R.Read.remaining (source_of c.args.reader.now)) (g.R.Read.remaining (source_of c.skip.new.self)) head shown size (part ++ behind) within c.ready.ensures.front (search rules) c.in_ok-head.ensures c.number_in-size.ensures.spells fits
    (ap (λ (n : ℕ). take n (part ++ behind)) is_size ∙ take_front size part behind count ∙ taken)
