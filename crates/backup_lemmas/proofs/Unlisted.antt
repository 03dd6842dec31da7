-- A backup that isn't listed is a part of any command.
use Rattle.std.proofs.Common.{[], Some, None, sym, subst}
use Rattle.std.specs.Prelude.{IsSome}
use Rattle.base_devices.specs.Content.{Content}
use Rattle.base_devices.specs.Moments.{View}
use Rattle.base_model.specs.Text.{Text}
use Rattle.base_model.specs.Repository.{Stanza, Repository, IsSound}
use Rattle.base_model.specs.Represents.{Represents}
use Rattle.base_model.specs.Steps.{Command, steps_of}
use Rattle.base_model.specs.Now.{NowRepresents}
use Rattle.base_model.specs.Steady.{IsSteady, EachImage}
use Rattle.base_model.proofs.Done.{part_none}
use Rattle.cmd_types.specs.declared.stages.plan.SyncScope.TheVariants.{Whole}
use Rattle.cmd_types.specs.DisksEffect.{IsPart, DoesPart}
use Rattle.backup_record.specs.Record.{IsListOf}
use Rattle.backup_record.proofs.Left.{OneManifest}
use Rattle.backup_make.specs.declared.draft.Draft.{Draft}
use Rattle.backup_make.specs.Draft.{stanza_of, pair_of, is_own_of, list_in}
use Rattle.backup_make.specs.Made.{LeavesList}
use Rattle.backup_make.proofs.Far.{far}
use Rattle.backup_make.proofs.Unlisted.{IsFar, synced_of, beside_represents, unlisted_moves}
use Rattle.repo_stanza.proofs.Settled.{OneList}
use Rattle.backup_lemmas.proofs.Begun.{BeginsBackup, known_as, stanza_there, list_there, no_vacant, steady_list}

-- a way of one kind is one of another that is wider
pub moves_as : (stanza : Text) (P Q : Content → Type 0) (a d : View) → ((g : Content) → P g → Q g) → EachImage stanza P a d → EachImage stanza Q a d
moves_as stanza P Q a d wider m = record {
  later = m.later;
  past = m.past;
  past_unsynced = m.past_unsynced;
  known = m.known;
  fixed = m.fixed;
  places = m.places;
  leaves = λ t g lo hi leaves. wider g (m.leaves t g lo hi leaves);
}

module _ (one_list : OneList) (one_manifest : OneManifest) (draft : Draft) (a : View) (begins : BeginsBackup draft a) where
  -- the stanza is looked at apart from what the backup changes
  pub far_from : (s : Stanza) → IsListOf s (list_in draft) → IsFar (stanza_of draft) (is_own_of draft) (pair_of draft) s
  far_from s list = far one_manifest draft begins.is_draft s list

  module _ (d : View) (leaves : LeavesList draft a d) where
    still : (r : Repository) → IsSome a.now → NowRepresents (stanza_of draft) r a.now → NowRepresents (stanza_of draft) r d.now
    still r some represents =
        let f = known_as a.now some in
        let x = stanza_there one_list draft a begins f.0 f.1 r (represents.represents f.0 f.1) in
        let list = list_there one_list draft a begins f.0 f.1 x.0 x.2 in
        record {
          represents = λ g is_g. subst (λ (q : Repository). Represents (stanza_of draft) g q) (sym x.1) (beside_represents draft x.0 (far_from x.0 list) f.0 g x.2 (leaves.now.goes f.0 g f.1 is_g));
        }

    goes : (command : Command) (r : Repository) → IsSome a.now → IsSteady (stanza_of draft) r a → IsSound r → EachImage (stanza_of draft) (IsPart (stanza_of draft) command r) a d
    goes command None some steady sound = absurd (no_vacant one_list draft a begins some steady)
    goes command (Some s) some steady sound =
        let list = steady_list one_list draft a begins some s steady in
        moves_as (stanza_of draft) (λ g. Represents (stanza_of draft) g (Some s)) (IsPart (stanza_of draft) command (Some s)) a d
        (λ g x. ([], part_none (steps_of command (Some s)), x, sound))
        (unlisted_moves draft s (far_from s list) a d some (leaves.way (synced_of draft s a steady)) steady)

    pub unlisted_part : (command : Command) → DoesPart Whole (stanza_of draft) command a d
    unlisted_part command = record {
      part = record { known = leaves.now.known; does = λ r from some represents. ([], part_none (steps_of command r), still r some represents) };
      goes = goes command;
    }
