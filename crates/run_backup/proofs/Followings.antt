-- A backup with the expiry that follows it: from its own part and what the expiry did after it.
use Rattle.std.proofs.Common.{◌≡◌, List, Option, Some, None, refl, sym, subst, ◌∙◌, true}
use Rattle.std.specs.Prelude.{ℕ, IsSome}
use Rattle.base_devices.specs.Content.{Content}
use Rattle.base_devices.specs.Moments.{View}
use Rattle.base_model.specs.Now.{NowRepresents, NowEffect}
use Rattle.base_model.specs.Repository.{Backup, Stanza, IsSound, IsSoundStanza}
use Rattle.base_model.specs.Steps.{Command, Turn, MakeBackup, Expire, after, all_of, steps_of}
use Rattle.base_model.specs.Text.{Text}
use Rattle.repo_text_lemmas.proofs.Lists.{one_list}
use Rattle.repo_text_lemmas.proofs.Manifests.{one_manifest}
use Rattle.backup_lemmas.proofs.Again.{made_sound}
use Rattle.cmd_types.specs.declared.stages.plan.SyncScope.TheVariants.{Whole}
use Rattle.cmd_types.specs.DisksEffect.{Reached, to_end, turned_back, OnAll, DoesPart, DoesWhole, DisksEffect}
use Rattle.expire_rules.specs.declared.rules.Rules.{Rules}
use Rattle.expire_make.specs.Expiry.{retention}
use Rattle.cmd_expire.specs.FollowUp.{StaysSound}
use Rattle.cmd_expire.specs.Pruning.{IsMomentIn}
use Rattle.cmd_expire.proofs.Followed.{stopped_runs, followed_runs}
use Rattle.cmd_expire.proofs.Moments.{some_moment}
use Rattle.run_backup.specs.Following.{WithExpiry}

-- ---- which command it is

-- a command of this kind makes a backup, and has no expiry
abbrev pub MakesBackup : (Command → Type 0) → Type 0
MakesBackup Is = (command : Command) → Is command → (turns : List Turn) × (b : Backup) × (command ≡ MakeBackup turns b None)

-- one after which none follows
pub unfollowed : {Is P : Command → Type 0} (least last : ℕ) → ((command : Command) × Is command × P command) → (command : Command) × WithExpiry None least last Is command × P command
unfollowed least last (command, is, p) = (command, (command, is, refl), p)

module _ (stanza : Text) (rules : Rules) (least last : ℕ) (Is : Command → Type 0) (makes : MakesBackup Is) (a s m t : View) where
  -- it reached no end
  pub stopped_steps : (reached : Reached) → ¬ (reached ≡ to_end) → ((command : Command) × WithExpiry None least last Is command × DisksEffect Whole stanza command reached a s m t)
      → (command : Command) × WithExpiry (Some rules) least last Is command × DisksEffect Whole stanza command reached a s m t
  stopped_steps reached not (command, (made, is_made, same), runs) =
      let x = makes made is_made in
      let n = some_moment rules.full least last in
      let k = retention rules n.0 in (
        MakeBackup x.0 x.1 (Some k),
        (made, is_made, (x.0, x.1, n.0, n.1, x.2, refl)),
        stopped_runs x.0 x.1 k stanza a s m t reached not (subst (λ (c : Command). DisksEffect Whole stanza c reached a s m t) (same ∙ x.2) runs),
      )

  -- it reached its end, and an expiry followed at a moment
  pub followed_steps : (d : View) (moment : ℕ) → IsMomentIn rules.full least last moment → (reached : Reached) → ¬ (reached ≡ turned_back)
      → ((command : Command) (is : Is command) → NowEffect stanza command true a.now m.now → StaysSound stanza command a.now)
      → DoesPart Whole stanza (Expire (retention rules moment)) m d → OnAll reached (DoesWhole Whole stanza (Expire (retention rules moment)) m d)
      → ((command : Command) × WithExpiry None least last Is command × DisksEffect Whole stanza command to_end a s m t)
      → (command : Command) × WithExpiry (Some rules) least last Is command × DisksEffect Whole stanza command reached a s d t
  followed_steps d moment may_be reached not sound part all (command, (made, is_made, same), runs) =
      let x = makes made is_made in
      let here = subst (λ (c : Command). DisksEffect Whole stanza c to_end a s m t) (same ∙ x.2) runs in
      let done = subst (λ (c : Command). NowEffect stanza c true a.now m.now) (sym x.2) here.whole.does.done in
      let stays = subst (λ (c : Command). StaysSound stanza c a.now) x.2 (sound made is_made done) in (
        MakeBackup x.0 x.1 (Some (retention rules moment)),
        (made, is_made, (x.0, x.1, moment, may_be, x.2, refl)),
        followed_runs x.0 x.1 (retention rules moment) stanza a s m t here stays d reached not part all,
      )

-- ---- it is sound with the backup

-- The repository is sound with a backup that is given; so it is with the command that made it after the same steps of
-- others.
pub known_sound : (stanza : Text) (turns : List Turn) (b : Backup) (old new : Option Content)
    → ((s : Stanza) → IsSome old → NowRepresents stanza (Some s) old → NowRepresents stanza (after (Some s) (all_of (steps_of (MakeBackup turns b None) (Some s)))) new)
    → ((s : Stanza) → IsSome old → NowRepresents stanza (Some s) old → IsSoundStanza s → IsSound (after (Some s) (all_of (steps_of (MakeBackup turns b None) (Some s)))))
    → (c : Backup) (command : Command) → command ≡ MakeBackup turns c None → NowEffect stanza command true old new → StaysSound stanza command old
known_sound stanza turns b old new adds sound c command is done = subst (λ (x : Command). StaysSound stanza x old) (sym is)
    (made_sound one_list one_manifest stanza turns c b old new (subst (λ (x : Command). NowEffect stanza x true old new) is done) adds sound)
