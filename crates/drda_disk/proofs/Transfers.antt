-- Transfers of a range in parts.
use Rattle.std.proofs.Common.{◌≡◌, ℕ, ◌+◌, ◌-◌, ◌≤◌, List, ◌++◌, length, take, drop, sym, ◌∙◌, ap, subst, arith, length-take, length-drop, inl, inr, ⊎_elim}
use Rattle.std.proofs.lemmas.List.{take_at, drop_at, drop-drop, take-append-drop, take-append-le, length-take-le}
use borrow.Rule.Slice.PartMut.{post_of, put_mid, same_len_mid, mid_len}
use Rattle.drda_words.specs.Place.{part}
use Rattle.drda_disk.specs.Disk.{Life, overlaid, Torn}
use Rattle.drda_disk.specs.PositionalFile.{MayTear}
use Rattle.drda_disk.specs.Images.{Torn-overlaid}
use Rattle.drda_disk.proofs.Parts.{part-add, part_before, part-overlaid, take-add, Torn-wider, Torn-trans}

-- a part more is written
pub MayTear-more : (at n from m : ℕ) (a b c : Life) → MayTear at n a b → MayTear from m b c → at ≤ from → from + m ≤ at + n → MayTear at n a c
MayTear-more at n from m a b c s t low high = record {
  tears = record {
    time = record {
      later = omega (arith, s.tears.time.later, t.tears.time.later);
      nothing_else = λ k i le left.
          ⊎_elim (λ was. ⊎_elim (λ old. inl old) (λ now. inr (t.none_gone i now)) (s.tears.time.nothing_else k i le was)) (λ now. inr now) (t.tears.time.nothing_else k i (omega (arith, le, s.tears.time.later)) left);
      keeps = λ k i le left. t.tears.time.keeps k i (omega (arith, le, s.tears.time.later)) (s.tears.time.keeps k i le left);
    };
    others = Torn-trans at n a.seen b.seen c.seen s.tears.others (Torn-wider from m at n b.seen c.seen low high t.tears.others);
    images = λ i now.
        let mid = t.tears.images i now in
        let old = s.tears.images mid.0 mid.1 in
        (old.0, old.1, Torn-trans at n old.0 mid.0 i old.2 (Torn-wider from m at n mid.0 i low high mid.2));
  };
  none_gone = λ i now. t.none_gone i (s.none_gone i now);
}

-- what was written by the first of its bytes, and by more of them
pub written_more : (old new bytes : List ℕ) (at done n : ℕ) → part old at done ≡ take done bytes → new ≡ overlaid old (at + done) (take n (drop done bytes)) → done + n ≤ length bytes → at + length bytes ≤ length old
    → part new at (done + n) ≡ take (done + n) bytes
written_more old new bytes at done n so_far written low within =
    let l = take n (drop done bytes) in
    let len : length l ≡ n = omega (arith, length-take n (drop done bytes), length-drop done bytes) in
    let room : at + done + length l ≤ length old = omega (arith, len, within) in
    let torn : Torn (at + done) (length l) old new = subst (λ (f : List ℕ). Torn (at + done) (length l) old f) (sym written) (Torn-overlaid old (at + done) l room) in
    let there : part new (at + done) n ≡ l = ap (λ k. part new (at + done) k) (sym len) ∙ ap (λ (f : List ℕ). part f (at + done) (length l)) written ∙ part-overlaid old (at + done) l room in
    part-add new at done n ∙ ap (λ (f : List ℕ). f ++ part new (at + done) n) (part_before old new (at + done) at done torn.before (omega arith) ∙ so_far)
    ∙ ap (λ (f : List ℕ). take done bytes ++ f) there ∙ sym (take-add done n bytes)

-- what was written stays where a later part is torn
pub written_stays : (old new bytes : List ℕ) (at done n : ℕ) → part old at done ≡ take done bytes → Torn (at + done) n old new → part new at done ≡ take done bytes
written_stays old new bytes at done n so_far torn = part_before old new (at + done) at done torn.before (omega arith) ∙ so_far

-- all of it
pub written_all : (old new bytes : List ℕ) (at : ℕ) → Torn at (length bytes) old new → part new at (length bytes) ≡ bytes → new ≡ overlaid old at bytes
written_all old new bytes at torn there =
    let n = length bytes in
    let rest : drop at new ≡ bytes ++ drop (at + n) old =
    sym (take-append-drop n (drop at new)) ∙ ap (λ (l : List ℕ). l ++ drop n (drop at new)) there ∙ ap (λ (l : List ℕ). bytes ++ l) (drop-drop n at new ∙ torn.after) in
    sym (take-append-drop at new) ∙ ap (λ (l : List ℕ). l ++ drop at new) torn.before ∙ ap (λ (l : List ℕ). take at old ++ l) rest

-- a part more is read, into the rest of a list
module _ (into read : List ℕ) (done : ℕ) (low : done ≤ length into) (size : length read ≡ length into - done) where
  pub put_length : length (put_mid done (length into - done) into read) ≡ length into
  put_length = same_len_mid done (length into - done) into read (size ∙ sym (mid_len done (length into) into (omega arith)))

  pub read_more : (file : List ℕ) (at n : ℕ) → take done into ≡ part file at done → take n read ≡ part file (at + done) n → n ≤ length read → take (done + n) (put_mid done (length into - done) into read) ≡ part file at (done + n)
  read_more file at n so_far next le =
      let front : length (take done into) ≡ done = length-take-le done into low in
      let behind = post_of done (length into - done) into in
      take-add done n (take done into ++ (read ++ behind))
      ∙ ap (λ (l : List ℕ). l ++ take n (drop done (take done into ++ (read ++ behind)))) (take_at (take done into) (read ++ behind) done front ∙ so_far)
      ∙ ap (λ (l : List ℕ). part file at done ++ take n l) (drop_at (take done into) (read ++ behind) done front)
      ∙ ap (λ (l : List ℕ). part file at done ++ l) (take-append-le n read behind le ∙ next)
      ∙ sym (part-add file at done n)
