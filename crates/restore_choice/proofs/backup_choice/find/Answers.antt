use Rattle.std.proofs.Common.{rules, ◌≡◌, ◌++◌, ◌∷◌, [], List, Option, true, false, length, option_map, sym, ap, ◌∙◌, subst}
use Rattle.std.specs.Prelude.{is_some}
use Rattle.base_devices.specs.Content.{Content}
use Rattle.base_devices.proofs.States.{looks_on}
use Rattle.base_model.specs.declared.labels.Entry as rust_entry
use Rattle.base_model.specs.Values.{entry_of}
use Rattle.restore_choice.specs.Judging.{JudgedAs}
use Rattle.restore_choice.specs.Views.{ancestry_of}
use Rattle.restore_choice.proofs.Searches.{parts_on, label_at, none_left, NoneIn, judged_last, judged_none}
use Rattle.restore_choice.proofs.backup_choice.find.Goals as goal

pub judge-requires : goal.judge-requires
judge-requires g c =
    let i = c.loop-last.invariant in
    let last = c.in-Some.last.now in
    let end : c.loop-last.rest.now ≡ c.in-Some.earlier.now ++ last ∷ [] = search rules in
    let is = parts_on c.args.backups.now c.loop-last.rest.now c.in-Some.earlier.now last i.parts.0 i.parts.1 end in
    label_at c.args.backups.now c.in-Some.earlier.now last i.parts.0 is c.requires

pub returns-then-is_some-clause-found : goal.returns-then-is_some-clause-found
returns-then-is_some-clause-found g c =
    let i = c.loop-last.invariant in
    let last = c.in-Some.last.now in
    let line = option_map ancestry_of c.args.ancestry.now in
    let judged = c.in_ok-judged.judged in
    let end : c.loop-last.rest.now ≡ c.in-Some.earlier.now ++ last ∷ [] = search rules in
    let some : is_some judged ≡ true = search rules in
    let is = parts_on c.args.backups.now c.loop-last.rest.now c.in-Some.earlier.now last i.parts.0 i.parts.1 end in
    judged_last c.args.stanza.now c.args.deadline line c.args.backups.now c.in-Some.earlier.now last i.parts.0 is (g.D.Disk.state c.args.repo.now).view.now judged some c.requires i.parts.2
    (subst (λ (o : Option Content). JudgedAs c.args.stanza.now o c.args.deadline line (entry_of last) judged) i.looks.now c.in_ok-judged.ensures.judged)

pub loop-last-preserved : goal.loop-last-preserved
loop-last-preserved g c =
    let i = c.loop-last.invariant in
    let last = c.in-Some.last.now in
    let line = option_map ancestry_of c.args.ancestry.now in
    let judged = c.in_ok-judged.judged in
    let end : c.loop-last.rest.now ≡ c.in-Some.earlier.now ++ last ∷ [] = search rules in
    let off : is_some judged ≡ false = search rules in
    let is = parts_on c.args.backups.now c.loop-last.rest.now c.in-Some.earlier.now last i.parts.0 i.parts.1 end in
    record {
      parts = (
        last ∷ i.parts.0,
        is,
        judged_none c.args.stanza.now c.args.deadline line c.args.backups.now c.in-Some.earlier.now last i.parts.0 is (g.D.Disk.state c.args.repo.now).view.now judged off i.parts.2
            (subst (λ (o : Option Content). JudgedAs c.args.stanza.now o c.args.deadline line (entry_of last) judged) i.looks.now c.in_ok-judged.ensures.judged),
      );
      looks = looks_on (g.D.Disk.state c.args.repo.now) (g.D.Disk.state c.loop-last.repo) (g.D.Disk.state c.judge.new.repo) i.looks c.judge.ensures.looks;
    }

pub returns-clause-found : goal.returns-clause-found
returns-clause-found g c =
    let i = c.loop-last.invariant in
    let zero : length c.loop-last.rest.now ≡ 0 = search rules in
    let empty = none_left c.loop-last.rest.now zero in
    subst (λ (l : List rust_entry.Entry). NoneIn c.args.stanza.now c.args.deadline (option_map ancestry_of c.args.ancestry.now) (g.D.Disk.state c.args.repo.now).view.now l)
    (sym (i.parts.1 ∙ ap (λ (l : List rust_entry.Entry). l ++ i.parts.0) empty)) i.parts.2
