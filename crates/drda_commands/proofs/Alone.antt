-- A command that comes alone: no item of it has come.
use Rattle.std.proofs.Common.{◌≡◌, ℕ, Bool, true, false, ◌&&◌, ◌||◌, List, [], ◌∷◌, Ok, Err, refl, ap, ◌∙◌, if◌then◌else◌}
use Rattle.std.specs.List.{list_any}
use Rattle.ddm_objects.specs.Reading.{walk}
use Rattle.drda_commands.specs.declared.refusal.Refusal.TheVariants.{ValueNotSupported}
use Rattle.drda_commands.specs.declared.table.Item.{Item}
use Rattle.drda_commands.specs.declared.table.ItemKind.{ItemKind}
use Rattle.drda_commands.specs.declared.table.ItemKind.TheVariants.{Parameter, DataObject}
use Rattle.drda_commands.specs.Given.{Occurs, never, found_at, nothing}
use Rattle.drda_commands.specs.Judge.{has_twice, is_absent, has_bad_value, item_twice, item_missing, none_bad}

never_found : (kind : ItemKind) (code : ℕ) → found_at kind code nothing ≡ never
unfolding walk
never_found Parameter code = refl
never_found DataObject code = refl

and_true : (b : Bool) → (b && true) ≡ b
and_true true = refl
and_true false = refl

pub none_comes_twice : (items : List Item) → list_any (item_twice nothing) items ≡ false
none_comes_twice [] = refl
none_comes_twice (item ∷ items) =
    ap (λ (o : Occurs). has_twice item.form o || list_any (item_twice nothing) items) (never_found item.kind item.code) ∙ none_comes_twice items

pub required_are_missing : (items : List Item) → list_any (item_missing nothing) items ≡ list_any (λ item. item.is_required) items
required_are_missing [] = refl
required_are_missing (item ∷ items) =
    ap (λ (o : Occurs). (item.is_required && is_absent item.form o) || list_any (item_missing nothing) items) (never_found item.kind item.code)
    ∙ ap (λ (b : Bool). b || list_any (item_missing nothing) items) (and_true item.is_required)
    ∙ ap (λ (b : Bool). item.is_required || b) (required_are_missing items)

pub none_is_bad : (unicode : Bool) (items : List Item) → none_bad unicode items nothing ≡ Ok tt
none_is_bad unicode [] = refl
none_is_bad unicode (item ∷ items) =
    ap (λ (o : Occurs). if has_bad_value unicode item.form o then Err (ValueNotSupported item.code) else none_bad unicode items nothing) (never_found item.kind item.code)
    ∙ none_is_bad unicode items
