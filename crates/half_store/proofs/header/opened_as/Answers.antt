use Rattle.std.proofs.Common.{◌≡◌, ℕ, ◌-◌, List, length, take_all, true, false, refl, sym, ◌∙◌, ap, arith}
use Rattle.std.proofs.lemmas.List.{length-drop}
use Rattle.std.specs.Prelude.{◌==◌, drop}
use Rattle.std.specs.List.{list_all}
use Rattle.half_store.specs.Header.{header_in, is_inside}
use Rattle.half_store.specs.declared.header.Header.{Header}
use Rattle.half_store.specs.declared.header.HalfState.TheVariants.{Open}
use Rattle.half_store.proofs.header.opened_as.Goals.{else-is_inside-via-then-is_inside+else-are_zeros, else-is_inside-via-else-is_inside}
use Rattle.half_store.proofs.header.opened_as.Goals as goal

pub returns-then-are_zeros-clause-state : goal.returns-then-are_zeros-clause-state
returns-then-are_zeros-clause-state c =
    let inside : is_inside c.args.half_bytes (header_in c.args.layout c.args.page.now) ≡ true = ap (is_inside c.args.half_bytes) (sym c.header_in-header.ensures) ∙ sym c.is_inside.ensures ∙ c.if-is_inside.true in
    let whole = take_all (length c.args.page.now - 25) (drop 25 c.args.page.now) (omega (arith, length-drop 25 c.args.page.now)) in
    let zeros : list_all (λ b. b == 0) (drop 25 c.args.page.now) ≡ true = ap (λ (l : List ℕ). list_all (λ b. b == 0) l) (sym whole) ∙ sym c.are_zeros.ensures ∙ c.if-are_zeros.true in
    rw (inside, zeros) (ap (λ (x : Header). Open x) c.header_in-header.ensures)

pub returns-else-is_inside-clause-state : goal.returns-else-is_inside-clause-state
returns-else-is_inside-clause-state c =
    let same = ap (is_inside c.args.half_bytes) (sym c.header_in-header.ensures) ∙ sym c.is_inside.ensures in
    elim c.else-is_inside.branch [
      | else-is_inside-via-then-is_inside+else-are_zeros w ↦
          let inside : is_inside c.args.half_bytes (header_in c.args.layout c.args.page.now) ≡ true = same ∙ w.if-is_inside.true in
          let whole = take_all (length c.args.page.now - 25) (drop 25 c.args.page.now) (omega (arith, length-drop 25 c.args.page.now)) in
          let other : list_all (λ b. b == 0) (drop 25 c.args.page.now) ≡ false = ap (λ (l : List ℕ). list_all (λ b. b == 0) l) (sym whole) ∙ sym w.are_zeros.ensures ∙ w.if-are_zeros.false in
          rw (inside, other) refl
      | else-is_inside-via-else-is_inside w ↦
          let outside : is_inside c.args.half_bytes (header_in c.args.layout c.args.page.now) ≡ false = same ∙ w.if-is_inside.false in
          rw outside refl
    ]
