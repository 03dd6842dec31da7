-- What a listing is of which a backup may be made, and what it is refused for.
use Rattle.std.proofs.Common.{◌≡◌, inl, Bool, true, false, List, refl, sym, subst}
use Rattle.std.proofs.Common.{String, Global, string_bytes}
use Rattle.std.specs.Prelude.{codes}
use Rattle.base_devices.specs.declared.data_folder.Node.TheVariants as nodes
use Rattle.base_model.specs.Text.{Text, In}
use Rattle.base_model.specs.ManifestText.{IsFolder}
use Rattle.backup_plan.specs.declared.fault.PlanFault.TheVariants as faults
use Rattle.backup_plan.specs.Omitted.{is_omitted}
use Rattle.backup_plan.specs.Listed.{Taken}
use Rattle.backup_plan.specs.Filter.{ListedNode, kept, files_of, folders_of, AreFine, AreTimed, IsOrdered, IsWhole, IsWithinLimits, HasControl, IsMissing, IsPast, IsRefused, IsTaken, IsListing, Takes}
use Rattle.backup_plan.proofs.Lists.{of_map}
use Rattle.backup_plan.proofs.Kept.{not_temporary, kept_is, not_omitted, no_passing, not_named, file_node, folder_node}

settings_folder : (online : Bool) → is_omitted online (codes "postgresql.auto.conf") nodes.Folder ≡ true
settings_folder true = refl
settings_folder false = refl

module _ (online : Bool) (seen : List ListedNode) (fs : List Taken) (folders : List Text) (fine : AreFine (kept online seen)) (files_are : fs ≡ files_of (kept online seen)) (folders_are : folders ≡ folders_of (kept online seen)) where
  module _ (timed : AreTimed (kept online seen)) (order : IsOrdered fs folders) where
    file_taken : (f : Taken) → In f fs → IsTaken folders f
    file_taken f i =
        let node = nodes.File f.size f.time in
        let here = file_node (kept online seen) f (subst (λ (gs : List Taken). In f gs) files_are i) in
        let out = not_omitted online (f.path, node) (kept_is online seen (f.path, node) here).0 in
        record {
          path = (fine (f.path, node) here).path;
          lasting = not_temporary f.path (no_passing online f.path node out);
          placed = (order.placed f i).below;
          signal = (not_named online (codes "recovery.signal") f.path node refl out, not_named online (codes "standby.signal") f.path node refl out);
          time = timed (f.path, node) here f (inl refl);
        }

    folder_taken : (p : Text) → In p folders → IsFolder folders p
    folder_taken p i =
        let here = folder_node (kept online seen) p (subst (λ (ps : List Text). In p ps) folders_are i) in
        let out = not_omitted online (p, nodes.Folder) (kept_is online seen (p, nodes.Folder) here).0 in
        record {
          is_path = (fine (p, nodes.Folder) here).path;
          lasting = not_temporary p (no_passing online p nodes.Folder out);
          placed = order.below p i;
          signal = (not_named online (codes "recovery.signal") p nodes.Folder refl out, not_named online (codes "standby.signal") p nodes.Folder refl out, not_named online (codes "postgresql.auto.conf") p nodes.Folder (settings_folder online) out);
        }

    is_listing : IsWithinLimits fs → IsListing fs folders
    is_listing within = record {
      files = file_taken;
      folders_hold = folder_taken;
      file_order = order.files;
      folder_order = order.folders_order;
      apart = λ path i. (let r = of_map (λ (f : Taken). f.path) fs path i in subst (λ (p : Text). ¬ In p folders) r.2 (order.placed r.0 r.1).apart);
      sizes = within.bytes;
    }

    pub takes : HasControl fs → IsWithinLimits fs → Takes online seen fs folders
    takes control within = record { fine = fine; files = files_are; folders_are = folders_are; control = control; few = within.files; listing = is_listing within }

  pub unordered : ¬ IsOrdered fs folders → IsRefused (kept online seen) faults.Unordered
  unordered other = (fine, subst (λ (gs : List Taken). ¬ IsOrdered gs (folders_of (kept online seen))) files_are (subst (λ (ps : List Text). ¬ IsOrdered fs ps) folders_are other))

  whole : IsOrdered fs folders → IsWhole (kept online seen)
  whole order = record { fine = fine; order = subst (λ (gs : List Taken). IsOrdered gs (folders_of (kept online seen))) files_are (subst (λ (ps : List Text). IsOrdered fs ps) folders_are order) }

  pub missing : IsOrdered fs folders → (path : String Global) (known : Text) → string_bytes path ≡ known → IsMissing known fs → IsRefused (kept online seen) (faults.ControlMissing path)
  missing order path known is lost = (whole order, subst (λ (gs : List Taken). IsMissing (string_bytes path) gs) files_are (subst (λ (p : Text). IsMissing p fs) (sym is) lost))

  pub too_many : IsOrdered fs folders → HasControl fs → (limit : _) → IsPast limit fs → IsRefused (kept online seen) (faults.TooMany limit)
  too_many order control limit past = (whole order, subst (λ (gs : List Taken). HasControl gs) files_are control, subst (λ (gs : List Taken). IsPast limit gs) files_are past)
