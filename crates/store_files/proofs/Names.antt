-- A name that a store may have is one that a database may have.
use Rattle.std.proofs.Common.{◌≡◌, ◌∙◌, refl, sym, ℕ, Bool, true, false, ◌&&◌, nat_le, List, length}
use Rattle.std.specs.List.{list_all}
use Rattle.session_commands.specs.Settings.{is_printable, is_rdb_name}
use Rattle.half_store.specs.Fresh.{is_name, is_store_of}
use Rattle.half_store.specs.Layout.{is_store_size}

joined : (a b c : Bool) → ((a && b) && c) ≡ (a && (b && c))
joined true b c = refl
joined false b c = refl

pub names_alike : (name : List ℕ) → is_name name ≡ is_rdb_name name
names_alike name = joined (nat_le 1 (length name)) (nat_le (length name) 18) (list_all is_printable name)

and_false : (a b : Bool) → b ≡ false → (a && b) ≡ false
and_false true b is = is
and_false false b is = refl

-- no store has a name that is none
pub no_store : (size : ℕ) (name : List ℕ) → is_name name ≡ false → is_store_of size name ≡ false
no_store size name is = and_false (is_store_size size) (is_name name) is

pub both : {P : Type 0} (b : Bool) → b ≡ true → b ≡ false → P
both b so not = let clash : true ≡ false = sym so ∙ not in absurd (cc clash)
