-- What claim_bytes writes is read back, and what is read was written so.
use Rattle.std.proofs.Common.{◌==◌, ◌≡◌, ℕ, ◌+◌, ◌*◌, ◌<◌, ◌≤◌, ◌^◌, zero, suc, List, [], ◌∷◌, ◌++◌, Bool, true, false, ◌&&◌, if◌then◌else◌, refl, sym, ap, subst, ◌∙◌, length, take, drop, nat_le, slice_index, Option, Some, None, option_map, arith, append_assoc, length-append, eqb-true, take-append-drop, length-take-le}
use Rattle.std.proofs.Math.Seq.{drop-append_seam, take-append_seam}
use Rattle.std.proofs.lemmas.Bool.Decides.{nat_tests}
use Rattle.std.proofs.lemmas.Nat.{be_bytes_2, from_be_bytes-to_be_bytes_2}
use Rattle.std.specs.Int.{w16, to_be_bytes, from_be_bytes}
use Rattle.drda_words.specs.Bytes.{AreBytes}
use Rattle.drda_words.specs.Number.{word}
use Rattle.drda_words.proofs.Bytes.{rest_are_bytes}
use Rattle.drda_words.proofs.Number.{word_is}
use Rattle.unit_locks.specs.declared.access.Access.{Access}
use Rattle.unit_locks.specs.declared.access.Access.TheVariants.{Read, Write}
use Rattle.unit_locks.specs.Claim.{Claim, IsClaim, OneReading, access_of, claim_bytes, claim_of, key_length_at, key_of, key_or_empty, length_at, mode_of, scope_bytes, scope_length_at}

-- ---- what is written is read back

access_back : (a : Access) → access_of (mode_of a) ≡ a
access_back Read = refl
access_back Write = refl

key_back : (key : Option (List ℕ)) → key_of (scope_bytes key) ≡ key
key_back None = refl
key_back (Some key) = refl

pub claim_back : (c : Claim) → claim_of (claim_bytes c) ≡ c
claim_back c = rw (take-append_seam c.table (scope_bytes c.key), drop-append_seam c.table (scope_bytes c.key), access_back c.access, key_back c.key) refl

mode_small : (a : Access) → nat_le (mode_of a) 1 ≡ true
mode_small Read = refl
mode_small Write = refl

enough : (xs ys : List ℕ) → nat_le (length xs) (length (xs ++ ys)) ≡ true
enough xs ys = let sum = length-append xs ys in grind (arith, nat_tests)

scope_back : (key : Option (List ℕ)) (rest : List ℕ) → length (key_or_empty key) < 2 ^ 16 → scope_length_at (scope_bytes key ++ rest) ≡ Some (length (scope_bytes key))
scope_back None rest short = refl
scope_back (Some key) rest short =
    let number : from_be_bytes w16 (to_be_bytes w16 (length key)) ≡ length key = from_be_bytes-to_be_bytes_2 (length key) short in
    let size : 3 + length key ≡ length (scope_bytes (Some key)) = omega arith in
    ap (λ (n : ℕ). if nat_le n (length (key ++ rest)) then Some (3 + n) else None) number
    ∙ ap (λ (b : Bool). if b then Some (3 + length key) else None) (enough key rest)
    ∙ ap (λ (n : ℕ). Some n) size

pub length_back : (c : Claim) (rest : List ℕ) → IsClaim c → length_at (claim_bytes c ++ rest) ≡ Some (length (claim_bytes c))
length_back c rest is =
    let text : (c.table ++ scope_bytes c.key) ++ rest ≡ c.table ++ (scope_bytes c.key ++ rest) = append_assoc c.table (scope_bytes c.key) rest in
    let sum = length-append c.table (scope_bytes c.key) in
    let size : 2 + length c.table + length (scope_bytes c.key) ≡ length (claim_bytes c) = omega (arith, sum) in
    ap (λ (l : List ℕ). length_at (mode_of c.access ∷ length c.table ∷ l)) text
    ∙ ap (λ (b : Bool). if b && nat_le (length c.table) (length (c.table ++ (scope_bytes c.key ++ rest))) then option_map (λ n. 2 + length c.table + n) (scope_length_at (drop (length c.table) (c.table ++ (scope_bytes c.key ++ rest)))) else None) (mode_small c.access)
    ∙ ap (λ (b : Bool). if b then option_map (λ n. 2 + length c.table + n) (scope_length_at (drop (length c.table) (c.table ++ (scope_bytes c.key ++ rest)))) else None) (enough c.table (scope_bytes c.key ++ rest))
    ∙ ap (λ (l : List ℕ). option_map (λ n. 2 + length c.table + n) (scope_length_at l)) (drop-append_seam c.table (scope_bytes c.key ++ rest))
    ∙ ap (option_map (λ n. 2 + length c.table + n)) (scope_back c.key rest is.key)
    ∙ ap (λ (n : ℕ). Some n) size

-- ---- what is read was written so

record FoundScope (bytes : List ℕ) (n : ℕ) : Type 0 where
  key : Option (List ℕ)
  more : List ℕ
  short : length (key_or_empty key) < 2 ^ 16
  text : bytes ≡ scope_bytes key ++ more
  size : n ≡ length (scope_bytes key)

key_cases : (b : Bool) (mark high low : ℕ) (rest : List ℕ) (n : ℕ) → nat_le (word high low) (length rest) ≡ b → mark ≡ 1 → AreBytes (high ∷ low ∷ rest)
    → (if b then Some (3 + word high low) else None) ≡ Some n → FoundScope (mark ∷ high ∷ low ∷ rest) n
key_cases true mark high low rest n enough one all h =
    let w = word_is high low in
    let first : high < 256 = all 0 in
    let second : low < 256 = all 1 in
    let le : word high low ≤ length rest = grind (arith, nat_tests) in
    let size : length (take (word high low) rest) ≡ word high low = length-take-le (word high low) rest le in
    let two : to_be_bytes w16 (word high low) ≡ high ∷ low ∷ [] = be_bytes_2 (high ∷ low ∷ []) (word high low) refl (λ i. two_bytes i) refl in
    let count : high ∷ low ∷ [] ≡ to_be_bytes w16 (length (take (word high low) rest)) = sym (ap (to_be_bytes w16) size ∙ two) in
    let same : 3 + word high low ≡ n = cc in
    let cut : rest ≡ take (word high low) rest ++ drop (word high low) rest = sym (take-append-drop (word high low) rest) in
    record {
      key = Some (take (word high low) rest);
      more = drop (word high low) rest;
      short = omega (arith, size, w, first, second);
      text = ap (λ (m : ℕ). m ∷ high ∷ low ∷ rest) one ∙ ap (λ (l : List ℕ). 1 ∷ high ∷ low ∷ l) cut
          ∙ ap (λ (l : List ℕ). 1 ∷ (l ++ take (word high low) rest) ++ drop (word high low) rest) count;
      size = omega (arith, same, size);
    }
  where
    two_bytes : (i : ℕ) → slice_index (high ∷ low ∷ []) i < 256
    two_bytes zero = all 0
    two_bytes (suc zero) = all 1
    two_bytes (suc (suc i)) = omega arith
key_cases false mark high low rest n enough one all h = absurd cc

key_found : (mark : ℕ) (rest : List ℕ) (n : ℕ) → mark ≡ 1 → AreBytes rest → key_length_at rest ≡ Some n → FoundScope (mark ∷ rest) n
key_found mark [] n one all h = absurd cc
key_found mark (high ∷ []) n one all h = absurd cc
key_found mark (high ∷ low ∷ rest) n one all h = key_cases (nat_le (word high low) (length rest)) mark high low rest n refl one all h

scope_cases : (zero_mark one_mark : Bool) (mark : ℕ) (rest : List ℕ) (n : ℕ) → (mark == 0) ≡ zero_mark → (mark == 1) ≡ one_mark → AreBytes rest
    → (if zero_mark then Some 1 else (if one_mark then key_length_at rest else None)) ≡ Some n → FoundScope (mark ∷ rest) n
scope_cases true b mark rest n is other all h =
    let m : mark ≡ 0 = eqb-true mark 0 is in
    let same : 1 ≡ n = cc in
    record { key = None; more = rest; short = omega arith; text = ap (λ (k : ℕ). k ∷ rest) m; size = sym same }
scope_cases false true mark rest n is other all h = key_found mark rest n (eqb-true mark 1 other) all h
scope_cases false false mark rest n is other all h = absurd cc

scope_found : (bytes : List ℕ) (n : ℕ) → AreBytes bytes → scope_length_at bytes ≡ Some n → FoundScope bytes n
scope_found [] n all h = absurd cc
scope_found (mark ∷ rest) n all h = scope_cases (mark == 0) (mark == 1) mark rest n refl refl (λ i. all (suc i)) h

-- a claim stands in front
pub record Found (bytes : List ℕ) (n : ℕ) : Type 0 where
  pub claim : Claim
  pub more : List ℕ
  pub is : IsClaim claim
  pub text : bytes ≡ claim_bytes claim ++ more
  pub size : n ≡ length (claim_bytes claim)

mapped : (f : ℕ → ℕ) (o : Option ℕ) (n : ℕ) → option_map f o ≡ Some n → (m : ℕ) × (o ≡ Some m) × (f m ≡ n)
mapped f (Some m) n h = (m, refl, cc)
mapped f None n h = absurd cc

mode_back : (mode : ℕ) → mode ≤ 1 → mode ≡ mode_of (access_of mode)
mode_back zero le = refl
mode_back (suc zero) le = refl
mode_back (suc (suc mode)) le = absurd (omega arith)

front_cases : (small inside : Bool) (mode count : ℕ) (rest : List ℕ) (n : ℕ) → nat_le mode 1 ≡ small → nat_le count (length rest) ≡ inside → count < 256 → AreBytes rest
    → (if small && inside then option_map (λ m. 2 + count + m) (scope_length_at (drop count rest)) else None) ≡ Some n → Found (mode ∷ count ∷ rest) n
front_cases true true mode count rest n small inside byte all h =
    let t = mapped (λ m. 2 + count + m) (scope_length_at (drop count rest)) n h in
    let le : count ≤ length rest = grind (arith, nat_tests) in
    let low : mode ≤ 1 = grind (arith, nat_tests) in
    let cut : rest ≡ take count rest ++ drop count rest = sym (take-append-drop count rest) in
    let size : length (take count rest) ≡ count = length-take-le count rest le in
    let s = scope_found (drop count rest) t.0 (rest_are_bytes (take count rest) (drop count rest) (subst AreBytes cut all)) t.1 in
    let sum = length-append (take count rest) (scope_bytes s.key) in
    record {
      claim = record { access = access_of mode; table = take count rest; key = s.key };
      more = s.more;
      is = record { name = omega (arith, size, byte); key = s.short };
      text = ap (λ (k : ℕ). k ∷ count ∷ rest) (mode_back mode low) ∙ ap (λ (k : ℕ). mode_of (access_of mode) ∷ k ∷ rest) (sym size)
          ∙ ap (λ (l : List ℕ). mode_of (access_of mode) ∷ length (take count rest) ∷ l) (cut ∙ ap (λ (l : List ℕ). take count rest ++ l) s.text ∙ sym (append_assoc (take count rest) (scope_bytes s.key) s.more));
      size = omega (arith, t.2, s.size, sum, size);
    }
front_cases true false mode count rest n small inside byte all h = absurd cc
front_cases false inside mode count rest n small within byte all h = absurd cc

pub found : (bytes : List ℕ) (n : ℕ) → AreBytes bytes → length_at bytes ≡ Some n → Found bytes n
found [] n all h = absurd cc
found (mode ∷ []) n all h = absurd cc
found (mode ∷ count ∷ rest) n all h = front_cases (nat_le mode 1) (nat_le count (length rest)) mode count rest n refl refl (all 1) (λ i. all (suc (suc i))) h

-- the first n bytes are a claim's, and it is the claim that they are read as
pub record Cut (bytes : List ℕ) (n : ℕ) : Type 0 where
  pub inside : n ≤ length bytes
  pub written : claim_bytes (claim_of (take n bytes)) ≡ take n bytes
  pub is : IsClaim (claim_of (take n bytes))

pub cut : (bytes : List ℕ) (n : ℕ) → AreBytes bytes → length_at bytes ≡ Some n → Cut bytes n
cut bytes n all h =
    let f = found bytes n all h in
    let sum = length-append (claim_bytes f.claim) f.more in
    let front : take n bytes ≡ claim_bytes f.claim = ap (λ (m : ℕ). take m bytes) f.size ∙ ap (λ (l : List ℕ). take (length (claim_bytes f.claim)) l) f.text ∙ take-append_seam (claim_bytes f.claim) f.more in
    let same : claim_of (take n bytes) ≡ f.claim = ap claim_of front ∙ claim_back f.claim in
    record {
      inside = subst (λ (l : List ℕ). n ≤ length l) (sym f.text) (omega (arith, f.size, sum));
      written = ap claim_bytes same ∙ sym front;
      is = subst IsClaim (sym same) f.is;
    }

-- no claim stands in front where none is found
pub none_found : (bytes : List ℕ) → length_at bytes ≡ None → (c : Claim) (rest : List ℕ) → IsClaim c → bytes ≡ claim_bytes c ++ rest → ⊥
none_found bytes h c rest is text =
    let found = length_back c rest is in
    let none : length_at (claim_bytes c ++ rest) ≡ None = subst (λ (l : List ℕ). length_at l ≡ None) text h in
    cc

-- ---- one reading

pub one : OneReading
one c d rest more is_c is_d text =
    let c_size = length_back c rest is_c in
    let d_size = length_back d more is_d in
    let both : length_at (claim_bytes c ++ rest) ≡ length_at (claim_bytes d ++ more) = ap length_at text in
    let size : length (claim_bytes c) ≡ length (claim_bytes d) = cc in
    let front : claim_bytes c ≡ claim_bytes d =
    sym (take-append_seam (claim_bytes c) rest) ∙ ap (take (length (claim_bytes c))) text ∙ ap (λ (n : ℕ). take n (claim_bytes d ++ more)) size ∙ take-append_seam (claim_bytes d) more in
    let back : rest ≡ more =
    sym (drop-append_seam (claim_bytes c) rest) ∙ ap (drop (length (claim_bytes c))) text ∙ ap (λ (n : ℕ). drop n (claim_bytes d ++ more)) size ∙ drop-append_seam (claim_bytes d) more in
    (sym (claim_back c) ∙ ap claim_of front ∙ claim_back d, back)
