-- The text of an event's record, and what is none.
use Rattle.std.proofs.Common.{◌≡◌, ◌≤◌, ◌<◌, ◌+◌, ℕ, zero, suc, List, [], ◌∷◌, ◌++◌, length, take, drop, slice_index, Option, Some, None, refl, sym, ap, subst, ◌∙◌, arith, length-append, append-nil, take-append-drop, take-take, take-add}
use Rattle.std.specs.Prelude.{IfSome}
use Rattle.std.specs.Int.{w32, to_be_bytes, from_be_bytes}
use Rattle.std.specs.Io.{StartsWith}
use Rattle.std.specs.Io.BufRead.{DropsConsumable}
use Rattle.std.specs.Io.KnownBytes.{Consumes, IsAtEnd}
use Rattle.std.proofs.KnownBytes.{Consumes-trans}
use Rattle.std.proofs.lemmas.List.{length-take-le}
use Rattle.std.proofs.lemmas.Nat.{from_be_bytes-to_be_bytes_4}
use Rattle.drda_node.specs.declared.event.Head.{Head}
use Rattle.drda_node.specs.declared.event.Head.TheVariants.{Opens, Sends, Loses, Checkpoints}
use Rattle.drda_node.specs.Records.{Event, opens, sends, loses, checkpoints, event_text, record_text, IsAllowed, IsBad}
use Rattle.drda_node.specs.Reading.{IsHead, event_of, size_of, Receives}

same_text : (k kind m number s size : ℕ) (rest more : List ℕ) → k ≡ kind → m ≡ number → s ≡ size → rest ≡ more
    → k ∷ m ∷ to_be_bytes w32 s ++ rest ≡ kind ∷ number ∷ to_be_bytes w32 size ++ more
same_text k kind m number s size rest more p q r t = λ i. p i ∷ q i ∷ to_be_bytes w32 (r i) ++ t i

-- what was read is the text of the event
pub head_is_text : (head : Head) (kind number size : ℕ) (bytes : List ℕ) → IsHead kind number size (Some head) → size_of head ≤ length bytes
    → event_text (event_of head bytes) ≡ kind ∷ number ∷ to_be_bytes w32 size ++ take (size_of head) bytes
head_is_text (Opens n) kind number size bytes h fits = same_text 1 kind n number 0 size [] [] (sym h.0) (sym h.1) (sym h.2) refl
head_is_text (Sends n count) kind number size bytes h fits =
    same_text 2 kind n number (length (take count bytes)) size (take count bytes) (take count bytes) (sym h.0) (sym h.1) (length-take-le count bytes fits ∙ sym h.2) refl
head_is_text (Loses n) kind number size bytes h fits = same_text 3 kind n number 0 size [] [] (sym h.0) (sym h.1) (sym h.2) refl
head_is_text (Checkpoints n) kind number size bytes h fits = same_text 4 kind n number 0 size [] [] (sym h.0) (sym h.1) (sym h.2) refl

pub head_allowed : (head : Head) (kind number size : ℕ) (bytes : List ℕ) → IsHead kind number size (Some head) → size_of head ≤ length bytes → IsAllowed (event_of head bytes)
head_allowed (Opens n) kind number size bytes h fits = tt
head_allowed (Sends n count) kind number size bytes h fits = let same = length-take-le count bytes fits in let small = h.3 in omega arith
head_allowed (Loses n) kind number size bytes h fits = tt
head_allowed (Checkpoints n) kind number size bytes h fits = tt

pub head_small : (head : Head) (kind number size : ℕ) → IsHead kind number size (Some head) → size_of head ≤ 65536
head_small (Opens n) kind number size h = omega arith
head_small (Sends n count) kind number size h = h.3
head_small (Loses n) kind number size h = omega arith
head_small (Checkpoints n) kind number size h = omega arith

pub head_size : (head : Head) (kind number size : ℕ) → IsHead kind number size (Some head) → size_of head ≡ size
head_size (Opens n) kind number size h = sym h.2
head_size (Sends n count) kind number size h = sym h.2
head_size (Loses n) kind number size h = sym h.2
head_size (Checkpoints n) kind number size h = sym h.2

-- ---- what begins with no event's record

abbrev pub kind_of : Event → ℕ
kind_of (opens n) = 1
kind_of (sends n bytes) = 2
kind_of (loses n) = 3
kind_of (checkpoints n) = 4

abbrev pub number_of : Event → ℕ
number_of (opens n) = n
number_of (sends n bytes) = n
number_of (loses n) = n
number_of (checkpoints n) = n

abbrev pub bytes_of : Event → List ℕ
bytes_of (opens n) = []
bytes_of (sends n bytes) = bytes
bytes_of (loses n) = []
bytes_of (checkpoints n) = []

is_record : (event : Event) → event_text event ≡ record_text (kind_of event) (number_of event) (bytes_of event)
is_record (opens n) = refl
is_record (sends n bytes) = refl
is_record (loses n) = refl
is_record (checkpoints n) = refl

bytes_small : (event : Event) → IsAllowed event → length (bytes_of event) ≤ 65536
bytes_small (opens n) allowed = omega arith
bytes_small (sends n bytes) allowed = allowed
bytes_small (loses n) allowed = omega arith
bytes_small (checkpoints n) allowed = omega arith

-- where a text begins with an event's record, its six first bytes say which
pub record Begins (k n a b c d : ℕ) (rest : List ℕ) (event : Event) (more : List ℕ) : Type 0 where
  pub kind : k ≡ kind_of event
  pub size : from_be_bytes w32 (a ∷ b ∷ c ∷ d ∷ []) ≡ length (bytes_of event)
  pub behind : rest ≡ bytes_of event ++ more

begins : (k n a b c d : ℕ) (rest : List ℕ) (event : Event) (more : List ℕ) → IsAllowed event → k ∷ n ∷ a ∷ b ∷ c ∷ d ∷ rest ≡ event_text event ++ more → Begins k n a b c d rest event more
begins k n a b c d rest event more allowed e =
    let same : k ∷ n ∷ a ∷ b ∷ c ∷ d ∷ rest ≡ record_text (kind_of event) (number_of event) (bytes_of event) ++ more = e ∙ ap (λ (z : List ℕ). z ++ more) (is_record event) in
    let size : a ∷ b ∷ c ∷ d ∷ [] ≡ to_be_bytes w32 (length (bytes_of event)) = ap (λ (z : List ℕ). take 4 (drop 2 z)) same in
    let small : length (bytes_of event) ≤ 65536 = bytes_small event allowed in
    record {
      kind = ap (λ (z : List ℕ). slice_index z 0) same;
      size = ap (λ (z : List ℕ). from_be_bytes w32 z) size ∙ from_be_bytes-to_be_bytes_4 (length (bytes_of event)) (omega arith);
      behind = ap (λ (z : List ℕ). drop 6 z) same;
    }

-- ---- of a stream

-- the head of a record, and fewer bytes than it says
pub bad_tail : (r0 r1 r2 : Option (List ℕ)) (k n a b c d size count : ℕ) (bytes : List ℕ) → Consumes r0 r1 (k ∷ n ∷ a ∷ b ∷ c ∷ d ∷ []) → size ≡ from_be_bytes w32 (a ∷ b ∷ c ∷ d ∷ [])
    → Consumes r1 r2 (take count bytes) → IsAtEnd r2 → length (take count bytes) < size → IfSome r0 IsBad
bad_tail None r1 r2 k n a b c d size count bytes took is took2 at_end few = tt
bad_tail (Some xs) None r2 k n a b c d size count bytes took is took2 at_end few = absurd took
bad_tail (Some xs) (Some ys) None k n a b c d size count bytes took is took2 at_end few = absurd took2
bad_tail (Some xs) (Some ys) (Some zs) k n a b c d size count bytes took is took2 at_end few =
    let all : ys ≡ take count bytes = took2 ∙ ap (λ (z : List ℕ). take count bytes ++ z) at_end ∙ append-nil (take count bytes) in
    record {
      some = λ empty. let bad : k ∷ n ∷ a ∷ b ∷ c ∷ d ∷ ys ≡ [] = sym took ∙ empty in absurd (cc bad);
      no_event = λ event more allowed e.
          let it = begins k n a b c d ys event more allowed (sym took ∙ e) in
          let behind : length ys ≡ length (bytes_of event ++ more) = ap length it.behind in
          let both : length (bytes_of event ++ more) ≡ length (bytes_of event) + length more = length-append (bytes_of event) more in
          let here : length ys ≡ length (take count bytes) = ap length all in
          let said : size ≡ length (bytes_of event) = is ∙ it.size in
          omega (arith, behind, both, here, said, few);
    }

six : (xs : List ℕ) → length xs ≡ 6 → slice_index xs 0 ∷ slice_index xs 1 ∷ slice_index xs 2 ∷ slice_index xs 3 ∷ slice_index xs 4 ∷ slice_index xs 5 ∷ [] ≡ xs
six [] l = absurd (omega arith)
six (a ∷ []) l = absurd (omega arith)
six (a ∷ b ∷ []) l = absurd (omega arith)
six (a ∷ b ∷ c ∷ []) l = absurd (omega arith)
six (a ∷ b ∷ c ∷ d ∷ []) l = absurd (omega arith)
six (a ∷ b ∷ c ∷ d ∷ e ∷ []) l = absurd (omega arith)
six (a ∷ b ∷ c ∷ d ∷ e ∷ f ∷ []) l = refl
six (a ∷ b ∷ c ∷ d ∷ e ∷ f ∷ g ∷ xs) l = absurd (omega arith)

-- six bytes were read
pub front_read : (r0 r1 : Option (List ℕ)) (xs : List ℕ) → length xs ≡ 6 → Consumes r0 r1 xs
    → Consumes r0 r1 (slice_index xs 0 ∷ slice_index xs 1 ∷ slice_index xs 2 ∷ slice_index xs 3 ∷ slice_index xs 4 ∷ slice_index xs 5 ∷ [])
front_read r0 r1 xs l took = subst (λ (z : List ℕ). Consumes r0 r1 z) (sym (six xs l)) took

pub small_four : (a b c d i : ℕ) → a < 256 → b < 256 → c < 256 → d < 256 → slice_index (a ∷ b ∷ c ∷ d ∷ []) i < 256
small_four a b c d zero p q r t = p
small_four a b c d (suc zero) p q r t = q
small_four a b c d (suc (suc zero)) p q r t = r
small_four a b c d (suc (suc (suc zero))) p q r t = t
small_four a b c d (suc (suc (suc (suc i)))) p q r t = omega arith

-- the head of an event, and its bytes
received_whole : (r0 r1 : Option (List ℕ)) (head : Head) (k n a b c d size : ℕ) (bytes part : List ℕ) → Consumes r0 r1 (k ∷ n ∷ a ∷ b ∷ c ∷ d ∷ part)
    → IsHead k n size (Some head) → to_be_bytes w32 size ≡ a ∷ b ∷ c ∷ d ∷ [] → size_of head ≤ length bytes → take (size_of head) bytes ≡ part
    → Receives r0 r1 (event_of head bytes)
received_whole r0 r1 head k n a b c d size bytes part took is length_is fits same =
    let text : event_text (event_of head bytes) ≡ k ∷ n ∷ a ∷ b ∷ c ∷ d ∷ part =
    head_is_text head k n size bytes is fits ∙ ap (λ (z : List ℕ). k ∷ n ∷ z ++ take (size_of head) bytes) length_is ∙ ap (λ (z : List ℕ). k ∷ n ∷ a ∷ b ∷ c ∷ d ∷ z) same in
    record { allowed = head_allowed head k n size bytes is fits; consumed = subst (λ (z : List ℕ). Consumes r0 r1 z) (sym text) took }

-- they were read one behind the other
pub received : (r0 r1 r2 : Option (List ℕ)) (head : Head) (k n a b c d size : ℕ) (bytes part : List ℕ) → Consumes r0 r1 (k ∷ n ∷ a ∷ b ∷ c ∷ d ∷ []) → Consumes r1 r2 part
    → IsHead k n size (Some head) → to_be_bytes w32 size ≡ a ∷ b ∷ c ∷ d ∷ [] → size_of head ≤ length bytes → take (size_of head) bytes ≡ part
    → Receives r0 r2 (event_of head bytes)
received r0 r1 r2 head k n a b c d size bytes part first second =
    received_whole r0 r2 head k n a b c d size bytes part (Consumes-trans r0 r1 r2 (k ∷ n ∷ a ∷ b ∷ c ∷ d ∷ []) part first second)

-- bytes that were shown and then taken away are read
skipped : (r0 r1 : Option (List ℕ)) (shown : List ℕ) (count : ℕ) → count ≤ length shown → IfSome r0 (λ left. StartsWith left shown) → DropsConsumable r0 r1 (Some (length shown)) count → Consumes r0 r1 (take count shown)
skipped None r1 shown count within front drops = tt
skipped (Some left) r1 shown count within front drops = at r1 (drops within)
  where
    at : (r : Option (List ℕ)) → r ≡ Some (drop count left) → Consumes (Some left) r (take count shown)
    at r e = rw e (sym (take-append-drop count left) ∙ ap (λ (z : List ℕ). z ++ drop count left) (sym (take-take count (length shown) left within) ∙ ap (take count) front))

-- they lay ready as a whole
pub received_ready : (r0 r1 : Option (List ℕ)) (head : Head) (shown : List ℕ) (size : ℕ) (bytes : List ℕ) → 6 + size ≤ length shown → IfSome r0 (λ left. StartsWith left shown) → DropsConsumable r0 r1 (Some (length shown)) (6 + size)
    → IsHead (slice_index shown 0) (slice_index shown 1) size (Some head) → to_be_bytes w32 size ≡ slice_index shown 2 ∷ slice_index shown 3 ∷ slice_index shown 4 ∷ slice_index shown 5 ∷ [] → size_of head ≤ length bytes
    → take (size_of head) bytes ≡ take size (drop 6 shown) → Receives r0 r1 (event_of head bytes)
received_ready r0 r1 head [] size bytes within front drops = absurd (omega arith)
received_ready r0 r1 head (k ∷ []) size bytes within front drops = absurd (omega arith)
received_ready r0 r1 head (k ∷ n ∷ []) size bytes within front drops = absurd (omega arith)
received_ready r0 r1 head (k ∷ n ∷ a ∷ []) size bytes within front drops = absurd (omega arith)
received_ready r0 r1 head (k ∷ n ∷ a ∷ b ∷ []) size bytes within front drops = absurd (omega arith)
received_ready r0 r1 head (k ∷ n ∷ a ∷ b ∷ c ∷ []) size bytes within front drops = absurd (omega arith)
received_ready r0 r1 head (k ∷ n ∷ a ∷ b ∷ c ∷ d ∷ others) size bytes within front drops = received_whole r0 r1 head k n a b c d size bytes (take size others)
    (subst (λ (z : List ℕ). Consumes r0 r1 z) (take-add 6 size (k ∷ n ∷ a ∷ b ∷ c ∷ d ∷ others)) (skipped r0 r1 (k ∷ n ∷ a ∷ b ∷ c ∷ d ∷ others) (6 + size) within front drops))

pub no_bytes : (head : Head) → ((n size : ℕ) → head ≡ Sends n size → ⊥) → size_of head ≡ 0
no_bytes (Opens n) none = refl
no_bytes (Sends n size) none = absurd (none n size refl)
no_bytes (Loses n) none = refl
no_bytes (Checkpoints n) none = refl

-- fewer bytes than a record's head has
few_are_bad : (ys : List ℕ) → 0 < length ys → length ys < 6 → IsBad ys
few_are_bad ys some few = record {
  some = λ empty. let none : length ys ≡ 0 = ap length empty in omega (arith, none, some);
  no_event = λ event more allowed e.
      let long : length ys ≡ suc (suc (suc (suc (suc (suc (length (bytes_of event ++ more))))))) = ap length (e ∙ ap (λ (z : List ℕ). z ++ more) (is_record event)) in
      omega (arith, long, few);
}

-- the stream ended in it
pub short_front : (r0 r1 : Option (List ℕ)) (bytes : List ℕ) (count : ℕ) → length bytes ≡ 6 → Consumes r0 r1 (take count bytes) → IsAtEnd r1 → count < length bytes → (count ≡ 0 → ⊥) → IfSome r0 IsBad
short_front None r1 bytes count six took at_end few some = tt
short_front (Some xs) None bytes count six took at_end few some = absurd took
short_front (Some xs) (Some ys) bytes count six took at_end few some =
    let all : xs ≡ take count bytes = took ∙ ap (λ (z : List ℕ). take count bytes ++ z) at_end ∙ append-nil (take count bytes) in
    let here : length (take count bytes) ≡ count = length-take-le count bytes (omega (arith, few)) in
    subst (λ (z : List ℕ). IsBad z) (sym all) (few_are_bad (take count bytes) (omega (arith, here, some)) (omega (arith, here, six, few)))
