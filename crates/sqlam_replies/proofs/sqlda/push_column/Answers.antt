use Rattle.std.proofs.Common.{rules, ◌≡◌, ◌≤◌, ◌++◌, ap, ◌∙◌, append_assoc, arith, length, length-append}
use Rattle.std.proofs.lemmas.List.{length-map}
use Rattle.std.specs.Prelude.{vec_capacity}
use Rattle.row_values.specs.Column.{column_of}
use Rattle.sqlam_replies.specs.Names.{byte_in, in_encoding}
use Rattle.sqlam_replies.specs.Sqldard.{before_name, behind_name, column_group}
use Rattle.sqlam_replies.proofs.Sizes.{fails, kept_mid, kept_same, third}
use Rattle.sqlam_replies.proofs.sqlda.push_column.Goals as goal

pub returns-in_err-extend_from_slice-clause-kept : goal.returns-in_err-extend_from_slice-clause-kept
returns-in_err-extend_from_slice-clause-kept c = kept_same c.args.out.now c.extend_from_slice.new.self.items c.in_err-extend_from_slice.ensures.items

pub returns-in_err-extend_from_slice-clause-full : goal.returns-in_err-extend_from_slice-clause-full
returns-in_err-extend_from_slice-clause-full c =
    let size = ap length c.before_name-before.ensures in
    fails _ c.args.out.now (column_group c.args.unicode (column_of c.args.column.now)) (omega (arith, size, c.in_err-extend_from_slice.ensures.full))

pub returns-in_err-push_name-clause-kept : goal.returns-in_err-push_name-clause-kept
returns-in_err-push_name-clause-kept c = kept_mid c.args.out.now c.extend_from_slice.new.self _ c.before_name-before.result c.in_ok-extend_from_slice.ensures.items c.in_err-push_name.ensures.kept

pub returns-in_err-push_name-clause-full : goal.returns-in_err-push_name-clause-full
returns-in_err-push_name-clause-full c =
    let size = ap length c.before_name-before.ensures in
    let name = ap length c.as_bytes-name.ensures.value in
    let column = column_of c.args.column.now in
    let part = length-map column.name (byte_in c.args.unicode) in
    let sum = length-append (in_encoding c.args.unicode column.name) behind_name in
    fails _ c.args.out.now (column_group c.args.unicode column) (omega (arith, size, name, part, sum, c.in_ok-extend_from_slice.ensures.len, c.in_ok-extend_from_slice.ensures.capacity, c.in_err-push_name.ensures.full))

pub returns : goal.returns
returns c =
    let column = column_of c.args.column.now in
    let front = before_name column.kind column.is_nullable column.limit (length column.name) in
    let name = in_encoding c.args.unicode column.name in
    let is : c.before_name-before.result ≡ front = search rules in
    let named : c.as_bytes-name.result.now ≡ column.name = search rules in
    let first = c.in_ok-extend_from_slice.ensures.items ∙ ap (λ x. c.args.out.now.items ++ x) is in
    let second = c.in_ok-push_name.ensures.ok ∙ ap (λ x. c.extend_from_slice.new.self.items ++ in_encoding c.args.unicode x) named ∙ ap (λ x. x ++ name) first ∙ append_assoc c.args.out.now.items front name in
    let more : vec_capacity c.args.out.now ≤ vec_capacity c.push_name.new.out = omega (arith, c.in_ok-extend_from_slice.ensures.capacity, c.in_ok-push_name.ensures.capacity) in
    let s = third c.extend_from_slice-2.result c.args.out.now c.push_name.new.out c.extend_from_slice-2.new.self (front ++ name) behind_name second more c.extend_from_slice-2.ensures.items c.extend_from_slice-2.ensures.full c.extend_from_slice-2.ensures.capacity in
    record { ok = s.ok; kept = s.kept; full = s.full; capacity = s.capacity }
