-- Where the bytes of a manifest's file lie, as a program reports it.
use Rattle.std.specs.Prelude.{◌≡◌, ℕ}
use Rattle.base_model.specs.declared.labels.Label.{Label}
use Rattle.base_model.specs.Place.{place}
use Rattle.base_model.specs.Text.{Text}
use Rattle.base_model.specs.Values.{FileEntry}
use Rattle.base_model.specs.Names.{file_name, bundle_name}
use Rattle.repo_manifest.specs.declared.byte_places.Holder.{Holder}
use Rattle.repo_manifest.specs.declared.byte_places.Holder.TheVariants.{Own, Other}
use Rattle.repo_manifest.specs.declared.byte_places.Spot.{Spot}
use Rattle.repo_manifest.specs.declared.byte_places.Spot.TheVariants.{Path, Bundle}
use Rattle.repo_manifest.specs.declared.byte_places.Place.{Place}

-- the label in whose folder the bytes lie, in a backup of this label
abbrev pub holder_of : Label → Holder → Label
holder_of own Own = own
holder_of own (Other l) = l

-- the name at which they lie
abbrev pub name_of : Text → Label → Spot → Text
name_of stanza l (Path path) = file_name stanza l path.now
name_of stanza l (Bundle number) = bundle_name stanza l number

-- that name, and the byte at which they begin
abbrev pub place_of : Text → Label → Place → Text × ℕ
place_of stanza own p = (name_of stanza (holder_of own p.holder) p.spot, p.at)

-- the place is where the bytes of this file lie, whatever the stanza and the backup
abbrev pub LocatesFile : FileEntry → Place → Type 0
LocatesFile e p = (stanza : Text) (own : Label) → place_of stanza own p ≡ place stanza own e
