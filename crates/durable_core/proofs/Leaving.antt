-- What a disk leaves on which units count before they are made.
use Rattle.std.proofs.Common.{◌⊎◌, inl, inr, ⊎_elim, Bool, List, ℕ, subst}
use Rattle.drda_disk.specs.Disk.{Life}
use Rattle.early_disk.specs.Early.{Besides}
use Rattle.unit_records.specs.Together.{all_made}
use Rattle.recovery.specs.Durable.{Durable}
use Rattle.recovery.specs.ImageLaws.{OpensToOne}
use Rattle.recovery.specs.Opens.{OpensTo}
use Rattle.recovery.specs.Part.{durable_part}
use Rattle.durable_core.specs.Ahead.{EarlyUnitsAreWhole, OpensBehind, OpensEarly}

module _ {D : Type 0} (modelled : Bool) (life : D → Life) (one : OpensToOne) where
  besides_opens : (name : List ℕ) (d : Durable) (base c : List ℕ) → OpensTo name d base → Besides modelled life OpensEarly base c → OpensTo name d c ⊎ OpensBehind name d base c
  besides_opens name d base c shown besides =
      let early = besides.1 in
      let same = one early.name name (durable_part early.core) d base early.opens shown in
      ⊎_elim (λ before. inl (subst (λ (n : List ℕ). OpensTo n d c) same.0 (subst (λ (part : Durable). OpensTo early.name part c) same.1 before)))
      (λ behind. inr (record {
        core = early.core;
        durable = same.1;
        calls = early.calls;
        may = early.may;
        opens = subst (λ (n : List ℕ). OpensTo n (durable_part (all_made early.calls early.core)) c) same.0 behind;
        place = besides.0.0;
        one = besides.0.1;
      })) early.either

  pub early_units_are_whole : EarlyUnitsAreWhole modelled life
  early_units_are_whole p name d is opens leaves c now =
      ⊎_elim (λ shown. inl (opens c shown)) (λ besides. ⊎_elim (λ before. inl before) (λ behind. inr (besides.0, besides.1, behind))
      (besides_opens name d besides.0 c (opens besides.0 besides.1) besides.2)) (leaves c is now)
