-- What reading calls are among those that mend the pairs.
use Rattle.std.proofs.Common.{◌≡◌, inl, inr, [], Option, refl, sym, subst, true}
use Rattle.std.specs.Prelude.{IsSome}
use Rattle.base_devices.specs.Content.{Content}
use Rattle.base_devices.specs.Crash.{IsAlikeAt}
use Rattle.base_devices.specs.Moments.{View, LeavesNoMore}
use Rattle.base_model.specs.Text.{Text}
use Rattle.base_model.specs.InfoFiles.{IsArchiveText}
use Rattle.base_model.specs.Names.{archive_info, copy_of}
use Rattle.base_model.specs.Steps.{Reading}
use Rattle.base_model.specs.Now.{NowRepresents, NowEffect}
use Rattle.base_model.specs.Walks.{IsSynced, RepresentsStill, Walks}
use Rattle.base_model.proofs.Frame.{pair_same}
use Rattle.base_model.proofs.Walking.{rests_walks, walks_on}
use Rattle.repo_pair.specs.Member.{IsMember, KeepsMembers}
use Rattle.repo_pair.proofs.Lasts.{looked_alike}
use Rattle.archive_store.specs.Still.{rests_none}
use Rattle.base_crash_lists.proofs.Stays.{rests_beside, beside_on}
use Rattle.cmd_types.specs.DisksEffect.{HealsPair, PairAlike}
use Rattle.cmd_types.proofs.Doing.{now_known}

module _ (stanza : Text) where
  -- nothing but reading
  pub reads_still : (a b : View) → LeavesNoMore a b → b.now ≡ a.now → IsSynced stanza a → IsSome a.now → Walks stanza (RepresentsStill stanza) a b
  reads_still a b rests same synced known = rests_walks stanza a b rests same (RepresentsStill stanza) (λ f r h. h) known synced

  pub still_still : (a b d : View) → Walks stanza (RepresentsStill stanza) a b → Walks stanza (RepresentsStill stanza) b d → Walks stanza (RepresentsStill stanza) a d
  still_still a b d first second = walks_on stanza (RepresentsStill stanza) (RepresentsStill stanza) (RepresentsStill stanza) (λ f g p. p) (λ f g h p q r x. q r (p r x)) a b d first second

  -- nothing was healed
  pub rests_heals : (old new : View) → LeavesNoMore old new → new.now ≡ old.now → HealsPair stanza old new
  rests_heals old new rests same = record {
    now = record {
      known = λ some. subst (λ (o : Option Content). IsSome o) (sym same) some;
      does = λ r from some now. ([], refl, subst (λ (o : Option Content). NowRepresents stanza r o) (sym same) now);
    };
    beside = rests_beside stanza old new rests same;
    walks = λ at. reads_still old new rests same at.synced (now_known stanza old at.now);
  }

  pub still_heals : (v : View) → HealsPair stanza v v
  still_heals v = rests_heals v v (rests_none v) refl

  -- the pairs were mended, and then only was read
  pub heals_on : (a b d : View) → HealsPair stanza a b → LeavesNoMore b d → d.now ≡ b.now → HealsPair stanza a d
  heals_on a b d heals_pair rests same = record {
    now = subst (λ (o : Option Content). NowEffect stanza Reading true a.now o) (sym same) heals_pair.now;
    beside = beside_on stanza a b d heals_pair.beside (rests_beside stanza b d rests same);
    walks = λ at. let w = heals_pair.walks at in still_still a b d w (reads_still b d rests same w.synced w.known);
  }

  -- members that are alike have one value
  pub alike_value : (v : View) → IsAlikeAt (IsMember (archive_info stanza)) v → PairAlike stanza v
  alike_value v alike f g x now leaves has = pair_same IsArchiveText f g (archive_info stanza) x
      (alike f g now leaves (archive_info stanza) (inl refl)) (alike f g now leaves (copy_of (archive_info stanza)) (inr refl)) has

  -- while only is read the members stay alike
  pub rests_members : (a b : View) → LeavesNoMore a b → b.now ≡ a.now → KeepsMembers (archive_info stanza) a b
  rests_members a b rests same = λ main copy known alike. looked_alike (IsMember (archive_info stanza)) a b rests same alike

  -- .. after what kept them so
  pub members_then : (a b d : View) → KeepsMembers (archive_info stanza) a b → LeavesNoMore b d → d.now ≡ b.now → KeepsMembers (archive_info stanza) a d
  members_then a b d keeps rests same = λ main copy known alike. looked_alike (IsMember (archive_info stanza)) b d rests same (keeps main copy known alike)
