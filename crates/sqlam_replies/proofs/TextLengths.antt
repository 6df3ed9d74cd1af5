-- How long the texts are.
use Rattle.std.proofs.Common.{◌≡◌, ℕ, ℤ, ◌+◌, ◌*◌, ◌≤◌, Bool, true, false, cond, leb, ltb, List, [], ◌∷◌, ◌++◌, refl, length, nat_le, arith, lit≤}
use Rattle.std.specs.List.{flat_map, list_all}
use Rattle.std.specs.Int.{w16, w32, to_be_bytes, cast_unsigned}
use Rattle.std.specs.Prelude.{codes, replicate}
use Rattle.std.proofs.lemmas.Bool.{le-leb, leb-true}
use Rattle.std.proofs.lemmas.List.{length-append, length-map}
use Rattle.ddm_objects.specs.Objects.{Obj, Plain, Extended4, Extended8, heading}
use Rattle.ddm_objects.specs.Writing.{form_for, spelled}
use Rattle.ddm_objects.specs.declared.code_point.TheConstants.{SVRCOD, SQLCARD, SQLDARD}
use Rattle.row_values.specs.Column.{Column}
use Rattle.sqlam_replies.specs.declared.message.ReplyMessage.{ReplyMessage}
use Rattle.sqlam_replies.specs.declared.message.ReplyMessage.TheVariants as is
use Rattle.sqlam_replies.specs.Message.{Message, has_short_values, message_of, message_text, objects}
use Rattle.sqlam_replies.specs.Names.{byte_in, in_encoding}
use Rattle.sqlam_replies.specs.Sqlcard.{sqlca, sqlcard}
use Rattle.sqlam_replies.specs.Sqldard.{are_described, before_name, behind_name, column_group, sqlda, sqldard}
use Rattle.sqlam_replies.proofs.Appending.{both_first, both_second}

plain_size : (code size : ℕ) (b c : Bool) → b ≡ true → length (heading (cond b Plain (cond c Extended4 Extended8)) code size) ≡ 4
plain_size code size true c e = refl
plain_size code size false c e = absurd cc

pub spelled_plain : (code : ℕ) (value : List ℕ) → length value ≤ 32763 → length (spelled code value) ≡ 4 + length value
unfolding spelled
spelled_plain code value fits =
    omega (arith, length-append (heading (form_for (length value)) code (length value)) value, plain_size code (length value) (leb (length value) 32763) (ltb (length value) 0x1_0000_0000) (le-leb _ _ fits))

-- ---- SQLCARD

card_by : (code state count : List ℕ) → length code ≡ 4 → length state ≡ 5 → length count ≡ 4
    → length (0x00 ∷ code ++ state ++ codes "RDA01000" ++ 0x00 ∷ (replicate 8 0 ++ count ++ replicate 12 0) ++ replicate 11 0x20 ++ replicate 6 0 ++ 0xFF ∷ []) ≡ 61
card_by code state count p q r = simp length-append (omega (arith, p, q, r))

pub card_length : (code : ℤ) (state : List ℕ) (count : ℕ) → length state ≡ 5 → length (sqlcard code state count) ≡ 65
card_length code state count five =
    let inner : length (sqlca code state count) ≡ 61 = card_by (to_be_bytes w32 (cast_unsigned w32 code)) state (to_be_bytes w32 count) refl five refl in
    let fits : length (sqlca code state count) ≤ 32763 = omega (arith, inner) in
    let outer = spelled_plain SQLCARD (sqlca code state count) fits in
    omega (arith, inner, outer)

pub null_length : length (spelled SQLCARD (0xFF ∷ [])) ≡ 5
null_length = spelled_plain SQLCARD (0xFF ∷ []) (lit≤ tt)

-- ---- SQLDARD

group_length : (unicode : Bool) (c : Column) → nat_le (length c.name) 30 ≡ true → length (column_group unicode c) ≤ 63
group_length unicode c short =
    let le = leb-true (length c.name) 30 short in
    let front : length (before_name c.kind c.is_nullable c.limit (length c.name)) ≡ 21 = refl in
    let back : length behind_name ≡ 12 = refl in
    let a = length-append (before_name c.kind c.is_nullable c.limit (length c.name)) (in_encoding unicode c.name ++ behind_name) in
    let b = length-append (in_encoding unicode c.name) behind_name in
    let m = length-map c.name (byte_in unicode) in
    omega (arith, le, front, back, a, b, m)

groups_length : (unicode : Bool) (columns : List Column) → list_all (λ (c : Column). nat_le (length c.name) 30) columns ≡ true → length (flat_map (column_group unicode) columns) ≤ 63 * length columns
groups_length unicode [] all = omega arith
groups_length unicode (c ∷ columns) all =
    let one = group_length unicode c (both_first _ _ all) in
    let others = groups_length unicode columns (both_second _ _ all) in
    let a = length-append (column_group unicode c) (flat_map (column_group unicode) columns) in
    omega (arith, one, others, a)

pub description_length : (unicode : Bool) (columns : List Column) → are_described columns ≡ true → length (sqldard unicode columns) ≤ 8072
description_length unicode columns all =
    let few = leb-true (length columns) 128 (both_first _ _ all) in
    let groups = groups_length unicode columns (both_second _ _ all) in
    let inner : length (sqlda unicode columns) ≡ 4 + length (flat_map (column_group unicode) columns) = omega arith in
    let fits : length (sqlda unicode columns) ≤ 32763 = omega (arith, few, groups, inner) in
    let outer = spelled_plain SQLDARD (sqlda unicode columns) fits in
    omega (arith, few, groups, inner, outer)

-- ---- messages

values_length : (os : List Obj) → list_all (λ (o : Obj). nat_le (length o.value) 791) os ≡ true → length (objects os) ≤ 795 * length os
values_length [] all = omega arith
values_length (o ∷ os) all =
    let short = leb-true (length o.value) 791 (both_first _ _ all) in
    let fits : length o.value ≤ 32763 = omega (arith, short) in
    let one = spelled_plain o.code o.value fits in
    let others = values_length os (both_second _ _ all) in
    let a = length-append (spelled o.code o.value) (objects os) in
    omega (arith, short, one, others, a)

-- no message has more than three parameters behind its severity
few_parameters : (m : ReplyMessage) → length (message_of m).parameters ≤ 3
few_parameters (is.Syntax code) = lit≤ tt
few_parameters is.OutOfTurn = lit≤ tt
few_parameters (is.CommandNotSupported code) = lit≤ tt
few_parameters (is.ValueNotSupported code) = lit≤ tt
few_parameters (is.RdbNotFound rdb) = lit≤ tt
few_parameters (is.CommandViolation rdb) = lit≤ tt
few_parameters (is.OpenFailed rdb) = lit≤ tt
few_parameters (is.QueryNotOpen rdb section) = lit≤ tt
few_parameters (is.QueryOpen rdb section) = lit≤ tt
few_parameters is.ManagerDependency = lit≤ tt
few_parameters is.ResourceLimit = lit≤ tt
few_parameters is.AgentFailed = lit≤ tt
few_parameters (is.UnitEnded end) = lit≤ tt
few_parameters (is.RdbUpdated rdb) = lit≤ tt
few_parameters (is.QueryOpened is_held instance) = lit≤ tt
few_parameters is.EndOfQuery = lit≤ tt

text_length : (m : Message) → length m.parameters ≤ 3 → list_all (λ (o : Obj). nat_le (length o.value) 791) m.parameters ≡ true → length (message_text m) ≤ 2395
text_length m few all =
    let others = values_length m.parameters all in
    let severity : length (spelled SVRCOD (to_be_bytes w16 m.severity)) ≡ 6 = spelled_plain SVRCOD (to_be_bytes w16 m.severity) (lit≤ tt) in
    let parts = spelled SVRCOD (to_be_bytes w16 m.severity) ++ objects m.parameters in
    let a = length-append (spelled SVRCOD (to_be_bytes w16 m.severity)) (objects m.parameters) in
    let fits : length parts ≤ 32763 = omega (arith, a, others, severity, few) in
    let outer = spelled_plain m.code parts fits in
    omega (arith, a, others, severity, few, outer)

pub message_length : (m : ReplyMessage) → has_short_values m ≡ true → length (message_text (message_of m)) ≤ 2395
message_length m all = text_length (message_of m) (few_parameters m) all
