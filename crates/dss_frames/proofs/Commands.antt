-- Joining the DSSs of a command, and reading them where they lie then.
use Rattle.std.proofs.Common.{◌≡◌, ℕ, zero, suc, ◌+◌, ◌-◌, ◌*◌, ◌/◌, ◌%◌, ◌≤◌, ◌<◌, false, List, [], ◌∷◌, ◌++◌, length, take, drop, refl, sym, ap, ◌∙◌, append_assoc, arith, length-append, length-drop, take-append-drop}
use Rattle.std.proofs.lemmas.List.{append-nil, drop-drop, drop-take, length-take-le}
use Rattle.std.proofs.Math.Seq.{take-append_seam, drop-append_seam}
use Rattle.drda_words.specs.Place.{part}
use Rattle.drda_words.specs.Number.{word}
use Rattle.drda_words.proofs.Number.{word_is}
use Rattle.dss_frames.specs.Dss.{Dss, IsDss, AreDsss}
use Rattle.dss_frames.specs.Joining.{count_bytes, IsJoined, AreJoined, JoinsDss}
use Rattle.dss_frames.specs.Group.{dsss_in, joined_dsss}
use Rattle.dss_frames.proofs.Readings.{segments_length}

-- three bytes give the count that they were made of
pub count_read : (n : ℕ) → n ≤ 1048576 → 65536 * (n / 256 / 256 % 256) + word (n / 256 % 256) (n % 256) ≡ n
count_read n le =
    let w = word_is (n / 256 % 256) (n % 256) in
    omega arith

-- ---- reading

joined_length : (dsss : List Dss) (text : List ℕ) → AreJoined text dsss → length dsss ≤ length text
joined_length [] text h = omega arith
joined_length (dss ∷ dsss) text h =
    let others = joined_length dsss h.1 h.4 in
    let all = ap length h.2 in
    let parts = length-append h.0 h.1 in
    let one = ap length h.3.text in
    omega arith

pub dsss_in_joined : (dsss : List Dss) (most : ℕ) (text : List ℕ) → AreJoined text dsss → length dsss ≤ most → dsss_in most text ≡ dsss
dsss_in_joined [] zero text h le = refl
dsss_in_joined [] (suc most) text h le = rw h refl
dsss_in_joined (dss ∷ dsss) zero text h le = absurd (omega arith)
dsss_in_joined (dss ∷ dsss) (suc most) text h le =
    let j = h.3 in
    let n = length dss.contents in
    let rest : List ℕ = h.1 in
    let text_is : text ≡ count_bytes n ++ (dss.format ∷ j.correlator_high ∷ j.correlator_low ∷ (dss.contents ++ rest)) =
    h.2 ∙ ap (λ (b : List ℕ). b ++ rest) j.text in
    let count = count_read n j.within in
    let others = dsss_in_joined dsss most rest h.4 (omega arith) in
    let front : take n (dss.contents ++ rest) ≡ dss.contents = take-append_seam dss.contents rest in
    let behind : drop n (dss.contents ++ rest) ≡ rest = drop-append_seam dss.contents rest in
    rw text_is (rw (count, front, behind, ← j.correlator, others) refl)

pub joined_dsss_are : (dsss : List Dss) (text : List ℕ) → AreJoined text dsss → joined_dsss text ≡ dsss
joined_dsss_are dsss text h = dsss_in_joined dsss (length text) text h (joined_length dsss text h)

-- ---- joining

pub record AllSoFar (old new : List ℕ) (start from to end : ℕ) (dsss : List Dss) : Type 0 where
  pub done : List Dss
  pub left : List Dss
  pub rest : List ℕ
  pub text : List ℕ
  pub all : dsss ≡ done ++ left
  pub place : from + length rest ≡ end
  pub follows : drop from new ≡ rest ++ drop end old
  pub waiting : AreDsss rest left
  pub moved : take to new ≡ take start old ++ text
  pub joined : AreJoined text done

pub none_joined : (old : List ℕ) (start size : ℕ) (dsss : List Dss) → start + size ≤ length old → AreDsss (part old start size) dsss → AllSoFar old old start start start (start + size) dsss
none_joined old start size dsss le h = record {
  done = [];
  left = dsss;
  rest = part old start size;
  text = [];
  all = refl;
  place = let k = length-take-le size (drop start old) (let m = length-drop start old in omega arith) in omega arith;
  follows = sym (take-append-drop size (drop start old)) ∙ ap (λ (b : List ℕ). part old start size ++ b) (drop-drop size start old);
  waiting = h;
  moved = sym (append-nil (take start old));
  joined = refl;
}

joined_more : (done : List Dss) (text one : List ℕ) (dss : Dss) → AreJoined text done → IsJoined one dss → AreJoined (text ++ one) (done ++ dss ∷ [])
joined_more [] text one dss h j = rw h (one, [], sym (append-nil one), j, refl)
joined_more (x ∷ done) text one dss h j = (h.0, h.1 ++ one, ap (λ (b : List ℕ). b ++ one) h.2 ∙ append_assoc h.0 h.1 one, h.3, joined_more done h.1 one dss h.4 j)

record FirstLeft (left : List Dss) (rest : List ℕ) : Type 0 where
  dss : Dss
  others : List Dss
  front : List ℕ
  remains : List ℕ
  left_are : left ≡ dss ∷ others
  text : rest ≡ front ++ remains
  is : IsDss front dss
  are : AreDsss remains others

first_left : (left : List Dss) (rest : List ℕ) → 1 ≤ length rest → AreDsss rest left → FirstLeft left rest
first_left [] rest le h = absurd (let k = ap length h in omega arith)
first_left (dss ∷ others) rest le h = record { dss = dss; others = others; front = h.0; remains = h.1; left_are = refl; text = h.2; is = h.3; are = h.4 }

pub one_joined : (old new newer : List ℕ) (start from to end : ℕ) (behind : ℕ × ℕ) (dsss : List Dss) → from < end
    → AllSoFar old new start from to end dsss → JoinsDss new from to end newer behind → AllSoFar old newer start behind.0 behind.1 end dsss
one_joined old new newer start from to end behind dsss lt h joins =
    let place : from + length h.rest ≡ end = h.place in
    let f = first_left h.left h.rest (omega arith) h.waiting in
    let lengths : length h.rest ≡ length f.front + length f.remains = ap length f.text ∙ length-append f.front f.remains in
    let parts : drop from new ≡ f.front ++ (f.remains ++ drop end old) = h.follows ∙ ap (λ (b : List ℕ). b ++ drop end old) f.text ∙ append_assoc f.front f.remains (drop end old) in
    let j = joins f.dss f.front (f.remains ++ drop end old) parts (omega arith) f.is in
    let at : behind.0 ≡ from + length f.front = j.0 in
    record {
      done = h.done ++ f.dss ∷ [];
      left = f.others;
      rest = f.remains;
      text = h.text ++ j.2.0;
      all = h.all ∙ ap (λ (ds : List Dss). h.done ++ ds) f.left_are ∙ sym (append_assoc h.done (f.dss ∷ []) f.others);
      place = omega arith;
      follows = j.1;
      waiting = f.are;
      moved = j.2.1 ∙ ap (λ (b : List ℕ). b ++ j.2.0) h.moved ∙ append_assoc (take start old) h.text j.2.0;
      joined = joined_more h.done h.text j.2.0 f.dss h.joined j.2.2;
    }

nothing_left : (left : List Dss) (rest : List ℕ) → length rest ≡ 0 → AreDsss rest left → left ≡ []
nothing_left [] rest e h = refl
nothing_left (dss ∷ others) rest e h = absurd (let k = segments_length h.0 dss false h.3 in let m = ap length h.2 in let parts = length-append h.0 h.1 in omega arith)

pub whole_joined : (old new : List ℕ) (start from to end : ℕ) (dsss : List Dss) → end ≤ from → start ≤ to → to ≤ length new → start ≤ length old → AllSoFar old new start from to end dsss
    → joined_dsss (part new start (to - start)) ≡ dsss
whole_joined old new start from to end dsss le up fits within h =
    let place : from + length h.rest ≡ end = h.place in
    let none = nothing_left h.left h.rest (omega arith) h.waiting in
    let all : dsss ≡ h.done = h.all ∙ ap (λ (ds : List Dss). h.done ++ ds) none ∙ append-nil h.done in
    let sum : start + (to - start) ≡ to = omega arith in
    let size : length (take start old) ≡ start = length-take-le start old within in
    let text : part new start (to - start) ≡ h.text =
    sym (drop-take start (to - start) new) ∙ ap (λ (n : ℕ). drop start (take n new)) sum ∙ ap (λ (b : List ℕ). drop start b) h.moved
    ∙ ap (λ (n : ℕ). drop n (take start old ++ h.text)) (sym size) ∙ drop-append_seam (take start old) h.text in
    ap joined_dsss text ∙ joined_dsss_are h.done h.text h.joined ∙ sym all
