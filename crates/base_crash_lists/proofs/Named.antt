-- Names below a stanza's folders.
use Rattle.std.proofs.Common.{◌≡◌, Bool, true, ◌∷◌, ◌++◌, arith}
use Rattle.std.specs.Prelude.{◌||◌}
use Rattle.std.proofs.lemmas.Grind.{common_steps}
use Rattle.base_devices.specs.Content.{is_below}
use Rattle.base_model.specs.Text.{Text}
use Rattle.base_model.specs.Names.{is_of_stanza, archive_folder, backup_folder}
use Rattle.base_model.proofs.Below.{below_prefix}

or_left : (a b : Bool) → a ≡ true → (a || b) ≡ true
or_left a b h = grind (arith, common_steps)

or_right : (a b : Bool) → b ≡ true → (a || b) ≡ true
or_right a b h = grind (arith, common_steps)

pub below_archive : (stanza name : Text) → is_below (archive_folder stanza) name ≡ true → is_of_stanza stanza name ≡ true
below_archive stanza name h = or_left _ _ h

pub in_archive : (stanza name rest : Text) → name ≡ archive_folder stanza ++ 47 ∷ rest → is_of_stanza stanza name ≡ true
in_archive stanza name rest is = or_left _ _ (below_prefix (archive_folder stanza) rest name is)

pub in_backup : (stanza name rest : Text) → name ≡ backup_folder stanza ++ 47 ∷ rest → is_of_stanza stanza name ≡ true
in_backup stanza name rest is = or_right _ _ (below_prefix (backup_folder stanza) rest name is)
