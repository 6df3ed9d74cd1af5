-- How the program ends, from what it did and what it said.
use Rattle.std.proofs.Common.{◌≡◌, ◌≢◌, ◌⊎◌, ◌∙◌, refl, sym, subst, ap, ap₂, inl, inr, ℕ, Bool, List, [], ◌++◌, take, Option, Some, None, Result, Ok, Err}
use Rattle.std.specs.Io.KnownBytes.{Appends}
use Rattle.std.proofs.Math.Seq.{take-nil}
use Rattle.std.proofs.KnownBytes.{Appends-nil, Appends-trans}
use Rattle.counted_streams.specs.Faults.{Counts}
use Rattle.command_line.specs.Job.{Job}
use Rattle.command_line.specs.Reading.{Says, Tells}
use Rattle.command_line.specs.declared.words.BadWords.{BadWords}
use Rattle.command_line.specs.declared.words.BadWords.TheVariants as words
use Rattle.drda_program.specs.Reporting.{fault_of_words}
use Rattle.store_files.specs.Endings.{line_for, status_for}
use Rattle.drda_program.specs.Program.{Does, Exits}
use Rattle.drda_server.specs.Serving.{Seen, Surroundings}
use Rattle.store_files.specs.declared.fault.Fault.{Fault}
use Rattle.store_files.specs.declared.fault.Fault.TheVariants.{BadArguments, Device, NoMemory}

-- ---- words

module _ {F D N L S W : Type 0} (around : Surroundings F D N L S W) (syncs : D → Bool → D → Type 0) (input : Option (List ℕ)) (counted counted' : Counts) where
  -- the job was done, or memory was refused before it was known
  abbrev pub Tried : Option Job → Seen F N → Result (Unit {0}) Fault → Seen F N → Type 0
  Tried said old outcome new = ((outcome ≡ Err NoMemory) × (new ≡ old)) ⊎ Does around syncs said input counted old outcome counted' new

  pub no_job : (said : Option Job) (old : Seen F N) (bad : BadWords) → Says said (Err bad) → Tried said old (Err (fault_of_words bad)) old
  no_job said old words.NoJob is = inr (subst (λ (s : Option Job). Does around syncs s input counted old (Err BadArguments) counted' old) (sym is) (refl, refl))
  no_job said old words.NoMemory is = inl (refl, refl)

  pub has_done : (said : Option Job) (job : Job) (old new : Seen F N) (outcome : Result (Unit {0}) Fault) → said ≡ Some job → Does around syncs (Some job) input counted old outcome counted' new → Tried said old outcome new
  has_done said job old new outcome is does = inr (subst (λ (s : Option Job). Does around syncs s input counted old outcome counted' new) (sym is) does)

  pub succeeds : (said : Option Job) (old new : Seen F N) (err : Option (List ℕ)) → Tried said old (Ok tt) new → Exits around syncs said input counted old 0 counted' new err err
  succeeds said old new err does = record {
    outcome = Ok tt;
    does = does;
    status_is = refl;
    told = [];
    told_only = λ some other good. refl;
    count = 0;
    says = Appends-nil err;
  }

  -- behind the text on bad words, a reason is told of a device alone
  pub exits : (said : Option Job) (old new : Seen F N) (err mid later err' : Option (List ℕ)) (fault : Fault) (status : ℕ) (text : List ℕ) → status ≡ status_for fault → Tried said old (Err fault) new → (said ≢ None → fault ≢ BadArguments → text ≡ [])
      → (count : ℕ) × Appends err mid (take count text) → (reason : List ℕ) × (fault ≢ Device → reason ≡ []) × Appends mid later reason
      → (count : ℕ) × Appends later err' (take count (line_for fault)) → Exits around syncs said input counted old status counted' new err err'
  exits said old new err mid later err' fault status text is does quiet (n, told) (reason, of_device, explained) (count, wrote) = record {
    outcome = Err fault;
    does = does;
    status_is = is;
    told = take n text ++ reason;
    told_only = λ some other good. ap₂ (λ (y z : List ℕ). y ++ z) (ap (λ (z : List ℕ). take n z) (quiet some (λ same. good (ap (λ (f : Fault). Err f) same))) ∙ take-nil n) (of_device (λ same. other (ap (λ (f : Fault). Err f) same)));
    count = count;
    says = Appends-trans err later err' (take n text ++ reason) (take count (line_for fault)) (Appends-trans err mid later (take n text) reason told explained) wrote;
  }

pub no_text : (M : Type 0) (said : Option Job) (text text' : List ℕ) (bad : BadWords) → Says said (Err bad) → Tells {M = M} (Err bad) text text' → said ≢ None → text' ≡ text
no_text M said text text' words.NoJob is tells some = absurd (some is)
no_text M said text text' words.NoMemory is tells some = tells
