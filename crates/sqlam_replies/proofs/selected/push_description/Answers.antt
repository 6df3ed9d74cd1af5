use Rattle.std.proofs.Common.{◌≤◌, [], ◌∷◌, ◌++◌, ap, ◌∙◌, append_assoc, arith, length, map, ◌≡◌, rules}
use Rattle.std.specs.Int.{to_be_bytes, w16}
use Rattle.std.specs.List.{flat_map}
use Rattle.std.specs.Prelude.{vec_capacity, slice_index_or}
use Rattle.ddm_objects.specs.declared.code_point.TheConstants.{SQLDARD}
use Rattle.ddm_objects.specs.Writing.{unset}
use Rattle.row_values.specs.Column.{column_of}
use Rattle.row_values.specs.Schema.{picked}
use Rattle.sqlam_replies.specs.Sqldard.{column_group}
use Rattle.sqlam_replies.proofs.Sizes.{closed, kept_mid, kept_same, mid, unopened}
use Rattle.sqlam_replies.proofs.selected.push_description.Goals as goal

pub returns-in_err-extend_from_slice-clause-full : goal.returns-in_err-extend_from_slice-clause-full
returns-in_err-extend_from_slice-clause-full c =
    let groups = flat_map (column_group c.args.unicode) (picked (map column_of c.args.columns.now) c.args.places.now) in
    mid _ c.args.out.now c.open.new.out SQLDARD [] (0 ∷ 0 ∷ 0 ∷ 0 ∷ []) (255 ∷ 255 ∷ to_be_bytes w16 (length c.args.places.now) ++ groups) c.in_ok-container.ensures.ok c.in_ok-container.ensures.capacity c.in_err-extend_from_slice.ensures.full (omega arith)

pub returns-in_err-push_selected-clause-kept : goal.returns-in_err-push_selected-clause-kept
returns-in_err-push_selected-clause-kept c =
    let front = 255 ∷ 255 ∷ slice_index_or c.to_be_bytes.result 0 0 ∷ slice_index_or c.to_be_bytes.result 1 0 ∷ [] in
    let items =
    c.in_ok-extend_from_slice.ensures.items
    ∙ ap (λ x. x ++ front) c.in_ok-container.ensures.ok
    ∙ append_assoc c.args.out.now.items unset front in
    kept_mid c.args.out.now c.extend_from_slice.new.self _ (unset ++ front) items c.in_err-push_selected.ensures.kept

pub returns-in_err-push_selected-clause-full : goal.returns-in_err-push_selected-clause-full
returns-in_err-push_selected-clause-full c =
    let front = 255 ∷ 255 ∷ slice_index_or c.to_be_bytes.result 0 0 ∷ slice_index_or c.to_be_bytes.result 1 0 ∷ [] in
    let items =
    c.in_ok-extend_from_slice.ensures.items
    ∙ ap (λ x. x ++ front) c.in_ok-container.ensures.ok
    ∙ append_assoc c.args.out.now.items unset front in
    let more : vec_capacity c.args.out.now ≤ vec_capacity c.extend_from_slice.new.self = omega (arith, c.in_ok-container.ensures.capacity, c.in_ok-extend_from_slice.ensures.capacity) in
    let groups = flat_map (column_group c.args.unicode) (picked (map column_of c.args.columns.now) c.args.places.now) in
    mid _ c.args.out.now c.extend_from_slice.new.self SQLDARD front groups (255 ∷ 255 ∷ to_be_bytes w16 (length c.args.places.now) ++ groups) items more c.in_err-push_selected.ensures.full (omega arith)

pub returns-in_err-container-clause-kept : goal.returns-in_err-container-clause-kept
returns-in_err-container-clause-kept c = kept_same c.args.out.now c.open.new.out.items c.in_err-container.ensures.err

pub returns-in_err-container-clause-full : goal.returns-in_err-container-clause-full
returns-in_err-container-clause-full c = unopened _ c.args.out.now SQLDARD _ c.in_err-container.ensures.full

pub returns : goal.returns
returns c =
    let front = 255 ∷ 255 ∷ slice_index_or c.to_be_bytes.result 0 0 ∷ slice_index_or c.to_be_bytes.result 1 0 ∷ [] in
    let number = 255 ∷ 255 ∷ to_be_bytes w16 (length c.args.places.now) in
    let is : front ≡ number = search rules in
    let groups = flat_map (column_group c.args.unicode) (picked (map column_of c.args.columns.now) c.args.places.now) in
    let items =
    c.in_ok-extend_from_slice.ensures.items
    ∙ ap (λ x. x ++ front) c.in_ok-container.ensures.ok
    ∙ append_assoc c.args.out.now.items unset front in
    let all =
    c.in_ok-push_selected.ensures.ok
    ∙ ap (λ x. x ++ groups) items
    ∙ append_assoc c.args.out.now.items (unset ++ front) groups
    ∙ ap (λ x. c.args.out.now.items ++ (unset ++ (x ++ groups))) is in
    let more : vec_capacity c.args.out.now ≤ vec_capacity c.push_selected.new.out = omega (arith, c.in_ok-container.ensures.capacity, c.in_ok-extend_from_slice.ensures.capacity, c.in_ok-push_selected.ensures.capacity) in
    let s = closed c.close.result c.args.out.now c.push_selected.new.out c.close.new.out _ _ SQLDARD (number ++ groups) all c.in_ok-container.ensures.opened more c.close.ensures.ok c.close.ensures.err c.close.ensures.full c.close.ensures.capacity in
    record { ok = s.ok; kept = s.kept; full = s.full; capacity = s.capacity }
