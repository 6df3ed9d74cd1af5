-- How long a SYNCCRD is.
use Rattle.std.proofs.Common.{◌≡◌, ℕ, ℤ, ◌+◌, ◌-◌, ◌*◌, ◌^◌, ◌<◌, ◌≤◌, Bool, true, false, cond, leb, ltb, ◌&&◌, List, [], ◌∷◌, Some, None, refl, ap, length, map, nat_le, take, arith, lit≤}
use Rattle.std.specs.List.{list_all}
use Rattle.std.specs.Int.{w16, w32, to_be_bytes, cast_unsigned}
use Rattle.std.proofs.lemmas.Bool.{le-leb, leb-true, lt-ltb}
use Rattle.std.proofs.lemmas.List.{length-append, length-take}
use Rattle.ddm_objects.specs.Objects.{Plain, Extended4, Extended8, heading}
use Rattle.ddm_objects.specs.Writing.{form_for, spelled}
use Rattle.ddm_objects.specs.declared.code_point.TheConstants.{SYNCCRD, XARETVAL, PRPHRCLST, XIDCNT, XID}
use Rattle.xa_calls.specs.Xid.{begins_with_xid, number_at, xid_in, xid_length}
use Rattle.sqlam_replies.specs.Message.{objects, scalar, synccrd, synccrd_with, xid_list}

-- ---- an XID

abbrev is_short : List ℕ → Bool
is_short xid = nat_le (length xid) 140

both_first : (a b : Bool) → (a && b) ≡ true → a ≡ true
both_first true b h = refl
both_first false b h = absurd cc

both_second : (a b : Bool) → (a && b) ≡ true → b ≡ true
both_second true b h = h
both_second false b h = absurd cc

some_if : (b : Bool) (x y : List ℕ) → cond b (Some x) None ≡ Some y → (b ≡ true) × (x ≡ y)
some_if true x y e = (refl, cc)
some_if false x y e = absurd cc

parts_short : (a b c : Bool) (global branch whole size : ℕ) → (a && (b && (c && (leb global 64 && (leb branch 64 && leb whole size))))) ≡ true → (global ≤ 64) × (branch ≤ 64)
parts_short a b c global branch whole size h =
    let last = (leb branch 64 && leb whole size) in
    let four = both_second c (leb global 64 && last) (both_second b (c && (leb global 64 && last)) (both_second a (b && (c && (leb global 64 && last))) h)) in
    (leb-true global 64 (both_first (leb global 64) last four), leb-true branch 64 (both_first (leb branch 64) (leb whole size) (both_second (leb global 64) last four)))

-- an XID has at most 140 bytes
pub xid_is_short : (bytes : List ℕ) → xid_in bytes ≡ Some bytes → nat_le (length bytes) 140 ≡ true
xid_is_short bytes h =
    let t = some_if (begins_with_xid bytes) (take (xid_length bytes) bytes) bytes h in
    let p = parts_short (leb 12 (length bytes)) (ltb (number_at bytes 0) (2 ^ 32 - 1)) (leb 1 (number_at bytes 4)) (number_at bytes 4) (number_at bytes 8) (xid_length bytes) (length bytes) t.0 in
    let same = ap length t.1 in
    let cut = length-take (xid_length bytes) bytes in
    le-leb (length bytes) 140 (omega (arith, p.0, p.1, same, cut))

-- ---- objects

plain_heading : (code size : ℕ) (b c : Bool) → b ≡ true → length (heading (cond b Plain (cond c Extended4 Extended8)) code size) ≡ 4
plain_heading code size true c e = refl
plain_heading code size false c e = absurd cc

any_heading : (code size : ℕ) (b c : Bool) → c ≡ true → length (heading (cond b Plain (cond c Extended4 Extended8)) code size) ≤ 8
any_heading code size true true e = lit≤ tt
any_heading code size false true e = lit≤ tt
any_heading code size b false e = absurd cc

plain_length : (code : ℕ) (value : List ℕ) → length value ≤ 32763 → length (spelled code value) ≡ 4 + length value
unfolding spelled
plain_length code value fits =
    omega (arith, length-append (heading (form_for (length value)) code (length value)) value, plain_heading code (length value) (leb (length value) 32763) (ltb (length value) 0x1_0000_0000) (le-leb _ _ fits))

any_length : (code : ℕ) (value : List ℕ) → length value < 0x1_0000_0000 → length (spelled code value) ≤ 8 + length value
unfolding spelled
any_length code value fits =
    omega (arith, length-append (heading (form_for (length value)) code (length value)) value, any_heading code (length value) (leb (length value) 32763) (ltb (length value) 0x1_0000_0000) (lt-ltb _ _ fits))

-- ---- SYNCCRD

value_length : (code : ℤ) → length (spelled XARETVAL (to_be_bytes w32 (cast_unsigned w32 code))) ≡ 8
value_length code = plain_length XARETVAL (to_be_bytes w32 (cast_unsigned w32 code)) (lit≤ tt)

pub code_card_length : (code : ℤ) → length (synccrd code) ≡ 12
code_card_length code =
    let value = value_length code in
    let sum = length-append (spelled XARETVAL (to_be_bytes w32 (cast_unsigned w32 code))) [] in
    let fits : length (objects (scalar XARETVAL (to_be_bytes w32 (cast_unsigned w32 code)) ∷ [])) ≤ 32763 = omega (arith, value, sum) in
    let outer = plain_length SYNCCRD (objects (scalar XARETVAL (to_be_bytes w32 (cast_unsigned w32 code)) ∷ [])) fits in
    omega (arith, value, sum, outer)

xids_length : (xids : List (List ℕ)) → list_all is_short xids ≡ true → length (objects (map (scalar XID) xids)) ≤ 144 * length xids
xids_length [] all = omega arith
xids_length (xid ∷ xids) all =
    let short = leb-true (length xid) 140 (both_first (is_short xid) (list_all is_short xids) all) in
    let fits : length xid ≤ 32763 = omega (arith, short) in
    let one = plain_length XID xid fits in
    let others = xids_length xids (both_second (is_short xid) (list_all is_short xids) all) in
    let sum = length-append (spelled XID xid) (objects (map (scalar XID) xids)) in
    omega (arith, short, one, others, sum)

list_length : (xids : List (List ℕ)) → length xids ≤ 256 → list_all is_short xids ≡ true → length (xid_list xids) ≤ 36870
list_length xids few all =
    let count : length (spelled XIDCNT (to_be_bytes w16 (length xids))) ≡ 6 = plain_length XIDCNT (to_be_bytes w16 (length xids)) (lit≤ tt) in
    let others = xids_length xids all in
    let sum = length-append (spelled XIDCNT (to_be_bytes w16 (length xids))) (objects (map (scalar XID) xids)) in
    omega (arith, few, count, others, sum)

pub in_doubt_card_length : (code : ℤ) (xids : List (List ℕ)) → length xids ≤ 256 → list_all is_short xids ≡ true → length (synccrd_with code xids) ≤ 36894
in_doubt_card_length code xids few all =
    let value = value_length code in
    let list = list_length xids few all in
    let listed : length (xid_list xids) < 0x1_0000_0000 = omega (arith, list) in
    let inner = any_length PRPHRCLST (xid_list xids) listed in
    let behind = length-append (spelled PRPHRCLST (xid_list xids)) [] in
    let sum = length-append (spelled XARETVAL (to_be_bytes w32 (cast_unsigned w32 code))) (objects (scalar PRPHRCLST (xid_list xids) ∷ [])) in
    let fits : length (objects (scalar XARETVAL (to_be_bytes w32 (cast_unsigned w32 code)) ∷ scalar PRPHRCLST (xid_list xids) ∷ [])) < 0x1_0000_0000 = omega (arith, value, list, inner, behind, sum) in
    let outer = any_length SYNCCRD (objects (scalar XARETVAL (to_be_bytes w32 (cast_unsigned w32 code)) ∷ scalar PRPHRCLST (xid_list xids) ∷ [])) fits in
    omega (arith, value, list, inner, behind, sum, outer)
