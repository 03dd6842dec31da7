-- What a command's own part begins from, after the stages.
use Rattle.std.proofs.Common.{rules, ◌≡◌, ◌⊎◌, ⊎_elim, inl, inr, false, List, ◌∷◌, ◌++◌, append_assoc, Option, Some, None, refl, ◌∙◌, sym, subst}
use Rattle.std.specs.Prelude.{IsSome, IsTrue, codes}
use Rattle.base_devices.specs.Content.{Name, Content, LiesDirectlyIn}
use Rattle.base_devices.specs.Moments.{View, LeavesNoMore, SyncsFolders, is_unsynced}
use Rattle.base_devices.specs.Crash.{IsAlikeAt}
use Rattle.base_devices.proofs.Nows.{known_as}
use Rattle.base_model.specs.Text.{Text}
use Rattle.base_model.specs.InfoFiles.{IsArchiveText}
use Rattle.base_model.specs.Log.{Done, KeepsRepository, Pair}
use Rattle.base_model.specs.Names.{is_of_stanza, archive_folder, archive_info, copy_of}
use Rattle.base_model.specs.Pair.{PairIs}
use Rattle.base_model.specs.Repository.{Repository}
use Rattle.base_model.specs.Represents.{Represents, archive_value}
use Rattle.base_model.specs.Steady.{IsSteady}
use Rattle.base_model.specs.Values.{ArchiveInfo}
use Rattle.base_model.specs.Walks.{IsSynced}
use Rattle.base_model.proofs.Below.{fixed_of}
use Rattle.base_model.proofs.Each.{keeps_synced}
use Rattle.base_model.proofs.Walking.{settled_same, rests_synced}
use Rattle.repo_info.proofs.OneArchive.{one_archive_pair}
use Rattle.archive_lookup.specs.Paths.{Lacks}
use Rattle.archive_store.proofs.PathLies.{lacks_not}
use Rattle.repo_pair.specs.Member.{IsMember, KeepsMembers}
use Rattle.cmd_types.specs.declared.stages.plan.Pairs.{Pairs}
use Rattle.cmd_types.specs.declared.stages.plan.Pairs.TheVariants.{Unread, ReadArchive, ReadBoth, HealArchive}
use Rattle.cmd_types.specs.declared.stages.plan.SyncScope.{SyncScope}
use Rattle.cmd_types.specs.declared.stages.plan.SyncScope.TheVariants.{Whole, Looked}
use Rattle.cmd_types.specs.Plans.{HealsToLast}
use Rattle.cmd_types.specs.DisksEffect.{Quiet, HealsPair, Begins, PairAlike}
use Rattle.cmd_types.proofs.Lifted.{rests_quiet, healed_quiet, heals_steady}
use Rattle.cmd_setup.specs.Calls.{StaysSynced}
use Rattle.cmd_setup.specs.Settled.{SettlesFor}
use Rattle.cmd_setup.proofs.Heals.{no_pair}
use Rattle.cmd_setup.proofs.HealedPair.{alike_value}

-- ---- where the members lie

main_slash : Lacks 47 (codes "archive.info")
main_slash = search rules

copy_slash : Lacks 47 (codes "archive.info" ++ codes ".copy")
copy_slash = search rules

member_lies : (stanza : Text) (n : Name) → IsMember (archive_info stanza) n → LiesDirectlyIn (archive_folder stanza) n
member_lies stanza n (inl e) = (codes "archive.info", e, lacks_not 47 (codes "archive.info") main_slash)
member_lies stanza n (inr e) = (codes "archive.info" ++ codes ".copy", e ∙ append_assoc (archive_folder stanza) (47 ∷ codes "archive.info") (codes ".copy"), lacks_not 47 (codes "archive.info" ++ codes ".copy") copy_slash)

member_synced : (stanza : Text) (v : View) → IsSynced stanza v → (n : Name) → IsMember (archive_info stanza) n → is_unsynced v n ≡ false
member_synced stanza v synced n (inl e) = synced.fixed n (Pair (inl e))
member_synced stanza v synced n (inr e) = synced.fixed n (Pair (inr (inl e)))

-- where the folder of the pair is synced both members are, and where the whole stanza is
pub pair_settles : (stanza : Text) (a b : View) → SyncsFolders (LiesDirectlyIn (archive_folder stanza)) a b → SyncsFolders (IsMember (archive_info stanza)) a b
pair_settles stanza a b settles n v is synced k = settles n v (member_lies stanza n is) synced k

pub stanza_settles : (stanza : Text) (a b : View) → SyncsFolders (λ n. IsTrue (is_of_stanza stanza n)) a b → SyncsFolders (IsMember (archive_info stanza)) a b
stanza_settles stanza a b settles n v is synced k = settles n v (fixed_of stanza n (Pair (⊎_elim (λ (e : n ≡ archive_info stanza). inl e) (λ (e : n ≡ copy_of (archive_info stanza)). inr (inl e)) is))) synced k

-- ---- the pair after what was synced

-- of a disk that is steady at one repository
steady_pair : (stanza : Text) (r : Repository) (v : View) → IsSteady stanza r v → PairAlike stanza v
steady_pair stanza r v steady f g x now leaves has = by r (steady.represents f (inl now)) (steady.represents g leaves)
  where
    by : (r : Repository) → Represents stanza f r → Represents stanza g r → PairIs IsArchiveText g (archive_info stanza) x
    by None of_f of_g = absurd (no_pair f (archive_info stanza) x of_f.archive_pair has)
    by (Some s) of_f of_g = subst (λ (u : ArchiveInfo). PairIs IsArchiveText g (archive_info stanza) u) (one_archive_pair f (archive_info stanza) (archive_value s) x of_f.archive_pair has) of_g.archive_pair

module _ (stanza : Text) (a b : View) (rests : LeavesNoMore a b) (same : b.now ≡ a.now) where
  -- both members are alike in all that is left
  settled_alike : SyncsFolders (IsMember (archive_info stanza)) a b → IsSynced stanza a → IsSome a.now → IsAlikeAt (IsMember (archive_info stanza)) b
  settled_alike settles synced some h g now leaves n is =
      let f = known_as a.now some in
      let at = settled_same (IsMember (archive_info stanza)) a b rests same settles (member_synced stanza a synced) f.0 f.1 in
      at g leaves n is ∙ sym (at h (inl now) n is)

  looked_pair : SettlesFor Looked stanza a b → IsSynced stanza a → IsSome a.now → PairAlike stanza b
  looked_pair settles synced some = alike_value stanza b (settled_alike (pair_settles stanza a b settles) synced some)

  pub settled_pair : (how : SyncScope) → SettlesFor how stanza a b → (q : Repository) (log : List Done) → KeepsRepository stanza q log a → IsSome a.now → PairAlike stanza b
  settled_pair Whole begun q log keeps some = let u = begun q log keeps some in steady_pair stanza u.repository b u.steady
  settled_pair Looked settles q log keeps some = looked_pair settles (keeps_synced stanza q log a keeps) some

  some_at : IsSome a.now → IsSome b.now
  some_at some = subst (λ (o : Option Content). IsSome o) (sym same) some

  pub prepared_synced : (d : View) → StaysSynced stanza b d → StaysSynced stanza a d
  prepared_synced d stays = λ synced some. stays (rests_synced stanza a b rests same synced) (some_at some)

  module _ (d : View) (settled : SyncsFolders (IsMember (archive_info stanza)) a b) (keeps : KeepsMembers (archive_info stanza) b d) where
    -- and so they are after what kept them so
    kept_alike : IsSynced stanza a → IsSome a.now → IsAlikeAt (IsMember (archive_info stanza)) d
    kept_alike synced some =
        let t = member_synced stanza b (rests_synced stanza a b rests same synced) in
        keeps (t (archive_info stanza) (inl refl)) (t (copy_of (archive_info stanza)) (inr refl)) (some_at some) (settled_alike settled synced some)

    pub prepared_lasts : (pairs : Pairs) → IsSynced stanza a → IsSome a.now → HealsToLast pairs stanza d
    prepared_lasts HealArchive synced some = kept_alike synced some
    prepared_lasts Unread synced some = tt
    prepared_lasts ReadArchive synced some = tt
    prepared_lasts ReadBoth synced some = tt

  module _ (d : View) (heals_pair : HealsPair stanza b d) where
    pub prepared_quiet : (how : SyncScope) → SettlesFor how stanza a b → Quiet stanza a d
    prepared_quiet how settles = healed_quiet stanza a b d (rests_quiet stanza a b rests same) (settled_pair how settles) heals_pair

    pub prepared_begins : (how : SyncScope) → SettlesFor how stanza a b → SyncsFolders (IsMember (archive_info stanza)) a b → KeepsMembers (archive_info stanza) b d → Begins how stanza a d
    prepared_begins Whole begun settled keeps = λ q log kept some.
        let u = begun q log kept some in
        record { repository = u.repository; reached = u.reached; sound = u.sound; steady = heals_steady stanza b d heals_pair (steady_pair stanza u.repository b u.steady) u.repository (some_at some) u.steady }
    prepared_begins Looked settles settled keeps = λ synced some. alike_value stanza d (kept_alike d settled keeps synced some)
