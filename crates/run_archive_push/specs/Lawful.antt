-- What the proof of the stages needs of what archive-push means. Own.
use Rattle.std.specs.Prelude.{◌≡◌, ◌≢◌, ◌⊎◌, ◌≤◌, ℕ, [], refl}
use Rattle.std.proofs.Common.{inl, inr, arith}
use Rattle.base_model.specs.Text.{Text}
use Rattle.base_devices.specs.Moments.{View}
use Rattle.cmd_archive_push.proofs.Putting.{healed_puts, puts_after}
use Rattle.cmd_archive_push.proofs.Refusals.{push_within}
use Rattle.cmd_setup.specs.Calls.{HealsOnly}
use Rattle.cmd_trait.specs.Meaning.{IsLawful, Place, apart, quiet_talk}
use Rattle.run_archive_push.specs.Pushing.{PushEffect, push_meaning}
use Rattle.run_archive_push.specs.Deciding.{push_there}

-- none is that of a command that ended with findings, or of a server's answer
pub not_65 : (status : ℕ) → (status ≤ 46) ⊎ (status ≡ 70) → status ≢ 65
not_65 status (inl low) = λ e. absurd (omega (arith, low, e))
not_65 status (inr is) = λ e. absurd (omega (arith, is, e))

pub beside_47 : (status : ℕ) → (status ≤ 46) ⊎ (status ≡ 70) → (status ≤ 46) ⊎ (52 ≤ status)
beside_47 status (inl low) = inl low
beside_47 status (inr is) = inr (omega (arith, is))

-- where the pair is healed at most nothing was pushed
none_pushed : (p : Place) (path : Text) (b k : View) → HealsOnly p.stanza b k → PushEffect p path b.now k.now
none_pushed p path b k heals = record {
  files = [];
  few = omega arith;
  named = λ file at. absurd at;
  puts = healed_puts p.stanza b.now k.now heals.only.now;
}

-- it may be healed before
pushed_after : (p : Place) (path : Text) (b c k : View) → HealsOnly p.stanza b c → PushEffect p path c.now k.now
    → PushEffect p path b.now k.now
pushed_after p path b c k heals h = record {
  files = h.files;
  few = h.few;
  named = h.named;
  puts = puts_after p.stanza b.now c.now heals.only.now h.files k.now heals.known h.puts;
}

pub push_lawful : (path : Text) → IsLawful (push_meaning path)
push_lawful path = record {
  some = λ p old new same. tt;
  healed = λ p old new repo heals P h. h;
  more = λ p old new failed others to fault h. h;
  closes_more = λ p old new repo failed others to fault h. tt;
  arguments_closes = λ p old failed fault h. tt;
  repo_none = λ p least b k heals. none_pushed p path b k heals;
  repo_on = λ p least b c k heals h. pushed_after p path b c k heals h;
  folder_none = λ p old. refl;
  folder_on = λ p old repo nodes same h. h;
  others_none = λ p others. refl;
  turned_none = λ p old new n nodes same. nodes;
  turned_on = λ p old new repo n same h. h;
  over = λ fault. (push_within fault).0;
  not_found = λ fault. not_65 _ (push_within fault).1;
  early = λ fault h. refl;
  no_control = λ none. cc;
  no_spool = λ none. refl;
  talk = λ p old new failed fault is same closes. quiet_talk old new failed _
      (beside_47 _ (push_within fault).1) is same;
  there = λ p old new known turns P on. push_there p.data_folder path old.nodes P known on;
  through = λ is p old new. tt;
  opens_only = λ off. absurd (apart off);
  lasts_alone = λ off p nodes repo now_nodes outcome. absurd (apart off);
  acknowledges_on = λ p b c k read h. h;
}
