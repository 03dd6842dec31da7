-- A command that syncs what it looks at alone does the same where the whole stanza was synced.
use Rattle.std.proofs.Common.{◌≡◌, inl, Some, sym, subst}
use Rattle.std.specs.Prelude.{IsSome}
use Rattle.base_devices.specs.Content.{Content}
use Rattle.base_devices.specs.Moments.{View}
use Rattle.base_devices.proofs.Nows.{known_as}
use Rattle.base_model.specs.Text.{Text}
use Rattle.base_model.specs.Names.{archive_info}
use Rattle.base_model.specs.Repository.{Repository}
use Rattle.base_model.specs.Represents.{Represents, archive_value}
use Rattle.base_model.specs.Steps.{Command}
use Rattle.base_model.specs.Steady.{IsSteady}
use Rattle.base_model.specs.Values.{ArchiveInfo}
use Rattle.base_model.proofs.PushDone.{stanza_of}
use Rattle.repo_info.proofs.OneArchive.{one_archive_pair}
use Rattle.cmd_types.specs.Current.{HasValue}
use Rattle.cmd_types.specs.declared.stages.plan.SyncScope.TheVariants.{Whole, Looked}
use Rattle.cmd_types.specs.DisksEffect.{IsLookedAt, PairAlike, DoesPart, DoesWhole}

module _ (stanza : Text) (r : Repository) (a : View) (some : IsSome a.now) (steady : IsSteady stanza r a) where
  start : (f : Content) × (a.now ≡ Some f)
  start = known_as a.now some

  alike : PairAlike stanza a
  alike f g x now leaves has =
      let s = stanza_of stanza f x r has (steady.represents f (inl now)) in
      let here : Represents stanza f (Some s.0) = subst (λ (q : Repository). Represents stanza f q) s.1 (steady.represents f (inl now)) in
      let there : Represents stanza g (Some s.0) = subst (λ (q : Repository). Represents stanza g q) s.1 (steady.represents g leaves) in
      let same : x ≡ archive_value s.0 = one_archive_pair f (archive_info stanza) x (archive_value s.0) has here.archive_pair in
      subst (λ (v : ArchiveInfo). HasValue stanza g v) (sym same) there.archive_pair

  pub looked_at : IsLookedAt stanza a
  looked_at = record {
    synced = record { fixed = steady.fixed; places = steady.places };
    now = record { content = start.0; now = start.1; repository = r; represents = steady.represents start.0 (inl start.1) };
    pair = alike;
  }

module _ (stanza : Text) (command : Command) (a d : View) where
  pub part_settled : DoesPart Looked stanza command a d → DoesPart Whole stanza command a d
  part_settled h = record {
    part = h.part;
    goes = λ r some steady sound. let w = h.goes (looked_at stanza r a some steady) in record {
      later = w.later;
      past = w.past;
      past_unsynced = w.past_unsynced;
      known = w.known;
      fixed = w.synced.fixed;
      places = w.synced.places;
      leaves = λ t g lo hi leaves. let x = w.comes t g lo hi leaves in x.2 r (steady.represents x.0 x.1) sound;
    };
  }

  pub whole_settled : DoesPart Looked stanza command a d → DoesWhole Looked stanza command a d → DoesWhole Whole stanza command a d
  whole_settled part h = record {
    done = h.done;
    ends = λ r some steady sound.
        let looked = looked_at stanza r a some steady in
        let w = part.goes looked in
        let e = h.ends looked in
        let last = known_as d.now w.known in
        let y = e.comes some last.0 (inl last.1) in (
          record {
            fixed = w.synced.fixed;
            places = w.synced.places;
            represents = λ g leaves. let x = e.comes some g leaves in (x.2 r (steady.represents x.0 x.1) sound).0;
          },
          (y.2 r (steady.represents y.0 y.1) sound).1,
        );
  }
