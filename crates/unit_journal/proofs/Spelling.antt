-- Records that are spelled from an offset on, and the gate behind them.
use Rattle.std.proofs.Common.{◌≡◌, ◌≢◌, ℕ, ◌+◌, ◌^◌, ◌<◌, ◌≤◌, List, [], ◌∷◌, ◌++◌, length, get_or, take, drop, refl, sym, ◌∙◌, ap, subst, arith, append_assoc, length-append}
use Rattle.std.proofs.lemmas.List.{take_at, drop_more, append-nil, take-take}
use Rattle.drda_words.specs.Place.{part}
use Rattle.drda_disk.specs.Disk.{overlaid, Torn}
use Rattle.drda_disk.specs.Images.{Torn-overlaid}
use Rattle.drda_disk.specs.Region.{end_of}
use Rattle.drda_disk.specs.declared.region.Region.{Region}
use Rattle.drda_disk.proofs.Parts.{part-add, part-overlaid}
use Rattle.unit_journal.specs.Record.{Entry, behind, laid, AreShort}
use Rattle.unit_journal.specs.Stands.{StandsFrom, Stands}

pub length-behind : (e : Entry) → length (behind e) ≡ 5 + length e.body
length-behind e = omega arith

pub laid-push : (es : List Entry) (e : Entry) → laid (es ++ e ∷ []) ≡ laid es ++ 165 ∷ behind e
laid-push [] e = ap (λ (l : List ℕ). 165 ∷ l) (append-nil (behind e))
laid-push (d ∷ es) e = ap (λ (l : List ℕ). 165 ∷ (behind d ++ l)) (laid-push es e) ∙ ap (λ (l : List ℕ). 165 ∷ l) (sym (append_assoc (behind d) (laid es) (165 ∷ behind e)))

pub length-laid-push : (es : List Entry) (e : Entry) → length (laid (es ++ e ∷ [])) ≡ length (laid es) + (6 + length e.body)
length-laid-push es e = omega (arith, ap length (laid-push es e), length-append (laid es) (165 ∷ behind e), length-behind e)

pub length-laid-cons : (e : Entry) (es : List Entry) → length (laid (e ∷ es)) ≡ 6 + length e.body + length (laid es)
length-laid-cons e es = omega (arith, length-append (behind e) (laid es), length-behind e)

pub short-push : (es : List Entry) (e : Entry) → AreShort es → length e.body < 2 ^ 32 → AreShort (es ++ e ∷ [])
short-push [] e all one = (one, tt)
short-push (d ∷ es) e all one = (all.0, short-push es e all.1 one)

-- one byte of an image
pub byte_part : (image : List ℕ) (i : ℕ) → i < length image → part image i 1 ≡ get_or image i 0 ∷ []
byte_part image i low = ap (λ (l : List ℕ). take 1 l) (drop_more image i 0 low)

module _ (at limit : ℕ) (es : List Entry) (image : List ℕ) where
  -- records are spelled, and the byte behind them is a closed gate
  pub stands_from : part image at (length (laid es)) ≡ laid es → (next : ℕ) → next ≡ at + length (laid es) → get_or image next 0 ≢ 165 → next < limit → limit ≤ length image → AreShort es → StandsFrom at limit es image
  stands_from spelled next place shut within inside short = record {
    gate = get_or image next 0;
    shut = shut;
    spelled = part-add image at (length (laid es)) 1 ∙ ap (λ (l : List ℕ). l ++ part image (at + length (laid es)) 1) spelled
        ∙ ap (λ (l : List ℕ). laid es ++ l) (ap (λ n. part image n 1) (sym place) ∙ byte_part image next (omega arith));
    within = omega arith;
    inside = inside;
    short = short;
  }

  module _ (s : StandsFrom at limit es image) where
    pub those : part image at (length (laid es)) ≡ laid es
    those = sym (take-take (length (laid es)) (length (laid es) + 1) (drop at image) (omega arith)) ∙ ap (λ (l : List ℕ). take (length (laid es)) l) s.spelled ∙ take_at (laid es) (s.gate ∷ []) (length (laid es)) refl

-- an empty region
pub started : (region : Region) (file new : List ℕ) → 0 < region.length → end_of region ≤ length file → new ≡ overlaid file region.at (0 ∷ []) → Stands region [] new
started region file new some inside is =
    let low : region.at + 1 ≤ length file = omega (arith, some, inside) in
    let torn : Torn region.at 1 file new = subst (λ (l : List ℕ). Torn region.at 1 file l) (sym is) (Torn-overlaid file region.at (0 ∷ []) low) in
    record {
      gate = 0;
      shut = λ no. cc;
      spelled = ap (λ (l : List ℕ). part l region.at 1) is ∙ part-overlaid file region.at (0 ∷ []) low;
      within = omega (arith, some);
      inside = omega (arith, inside, torn.size);
      short = tt;
    }
