use Rattle.std.proofs.Common.{subst}
use Rattle.base_disk.specs.Store.{ChangesOnly}
use Rattle.base_model.specs.Text.{Text}
use Rattle.base_model.specs.Values.{archive_info_of}
use Rattle.repo_pair.specs.Member.{IsOfPair, KeepsMembers}
use Rattle.repo_stanza.proofs.Saves.{archive_name_is}
use Rattle.cmd_setup.proofs.Heals.{named_heals, named_only, named_synced, named_value}
use Rattle.cmd_setup.proofs.pairs.heal_pair_at.Goals as goal

pub heal_pair-requires : goal.heal_pair-requires
heal_pair-requires g c = record { named = archive_name_is c.args.stanza.now c.args.name.now c.requires }

pub returns-in_err-info-clause-heals_pair : goal.returns-in_err-info-clause-heals_pair
returns-in_err-info-clause-heals_pair g c = let h = c.heal_pair.ensures in
    named_heals c.args.stanza.now c.args.name.now c.requires _ _ h.now_part h.crash h.idle h.known h.only

pub returns-clause-heals_pair : goal.returns-clause-heals_pair
returns-clause-heals_pair g c = let h = c.heal_pair.ensures in
    named_heals c.args.stanza.now c.args.name.now c.requires _ _ h.now_part h.crash h.idle h.known h.only

pub returns-clause-found : goal.returns-clause-found
returns-clause-found g c = let h = c.in_ok-info.ensures in
    (named_value c.args.stanza.now c.args.name.now c.requires (archive_info_of c.in_ok-info.info) h.valid h.within _ h.healed, h.valid)

pub returns-clause-only : goal.returns-clause-only
returns-clause-only g c =
    named_only c.args.stanza.now c.args.name.now c.requires (g.D.Disk.state c.args.repo.now).view (g.D.Disk.state c.heal_pair.new.d).view c.heal_pair.ensures.now_part (archive_info_of c.in_ok-info.info) c.in_ok-info.ensures.found (returns-clause-found g c).0

pub returns-clause-lasts : goal.returns-clause-lasts
returns-clause-lasts g c = subst (λ (n : Text). KeepsMembers n (g.D.Disk.state c.args.repo.now).view (g.D.Disk.state c.heal_pair.new.d).view) c.requires c.in_ok-info.ensures.lasts

pub returns-in_err-info-clause-synced : goal.returns-in_err-info-clause-synced
returns-in_err-info-clause-synced g c = let h = c.heal_pair.ensures in named_synced c.args.stanza.now c.args.name.now c.requires _ _ h.crash h.idle

pub returns-clause-synced : goal.returns-clause-synced
returns-clause-synced g c = let h = c.heal_pair.ensures in named_synced c.args.stanza.now c.args.name.now c.requires _ _ h.crash h.idle

pub returns-in_err-info-clause-changes : goal.returns-in_err-info-clause-changes
returns-in_err-info-clause-changes g c = subst (λ (n : Text). ChangesOnly (IsOfPair n) (g.D.Disk.state c.args.repo.now).view (g.D.Disk.state c.heal_pair.new.d).view) c.requires c.heal_pair.ensures.only

pub returns-clause-changes : goal.returns-clause-changes
returns-clause-changes g c = subst (λ (n : Text). ChangesOnly (IsOfPair n) (g.D.Disk.state c.args.repo.now).view (g.D.Disk.state c.heal_pair.new.d).view) c.requires c.heal_pair.ensures.only
