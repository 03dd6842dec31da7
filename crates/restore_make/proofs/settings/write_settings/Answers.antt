use Rattle.std.proofs.Common.{◌∙◌, refl, sym, subst}
use Rattle.base_devices.specs.DataFolder.{BeginsEmpty, IsPlaced}
use Rattle.base_model.specs.Text.{Text}
use Rattle.restore_steps.proofs.Filing.{same_begun, same_longer}
use Rattle.restore_steps.proofs.Placing.{begun_file, in_root}
use Rattle.restore_make.specs.Recovered.{conf_path, signal_path}
use Rattle.restore_make.specs.Options.{log_fetch_of}
use Rattle.restore_make.proofs.Names.{off_settings}
use Rattle.restore_make.proofs.Signals.{signal_placed}
use Rattle.restore_make.proofs.Lines.{begun_has}
use Rattle.restore_make.proofs.settings.write_settings.Goals as goal

pub returns-in_err-append-clause-others : goal.returns-in_err-append-clause-others
returns-in_err-append-clause-others g c = λ q own.
    let off = (off_settings (log_fetch_of c.args.fetch.now) q own).0 in
    let old = (g.T.DataFolder.state c.args.tree.now).nodes in
    let begun = (g.T.DataFolder.state c.begin.new.self).nodes in
    let long = (g.T.DataFolder.state c.append.new.self).nodes in
    same_longer c.append.result conf_path c.args.text.now begun long c.append.ensures.nodes q off
    ∙ same_begun c.begin.result conf_path old begun c.begin.ensures.nodes q off

pub returns-clause-signal : goal.returns-clause-signal
returns-clause-signal g c =
    let long = (g.T.DataFolder.state c.append.new.self).nodes in
    let last = (g.T.DataFolder.state c.begin-2.new.self).nodes in
    begun_has c.begin-2.result (signal_path (log_fetch_of c.args.fetch.now)) long last (subst (λ (p : Text). BeginsEmpty c.begin-2.result p long last) c.signal_path.ensures c.begin-2.ensures.nodes)

pub returns-clause-others : goal.returns-clause-others
returns-clause-others g c = λ q own.
    let fetch = log_fetch_of c.args.fetch.now in
    let both = off_settings fetch q own in
    let old = (g.T.DataFolder.state c.args.tree.now).nodes in
    let begun = (g.T.DataFolder.state c.begin.new.self).nodes in
    let long = (g.T.DataFolder.state c.append.new.self).nodes in
    let last = (g.T.DataFolder.state c.begin-2.new.self).nodes in
    same_begun c.begin-2.result (signal_path fetch) long last (subst (λ (p : Text). BeginsEmpty c.begin-2.result p long last) c.signal_path.ensures c.begin-2.ensures.nodes) q both.1
    ∙ same_longer c.append.result conf_path c.args.text.now begun long c.append.ensures.nodes q both.0
    ∙ same_begun c.begin.result conf_path old begun c.begin.ensures.nodes q both.0

pub returns-in_err-begin-clause-proper : goal.returns-in_err-begin-clause-proper
returns-in_err-begin-clause-proper g c = c.begin.ensures.proper (in_root conf_path (g.T.DataFolder.state c.args.tree.now).nodes refl)

pub returns-in_err-append-clause-proper : goal.returns-in_err-append-clause-proper
returns-in_err-append-clause-proper g c =
    let old = (g.T.DataFolder.state c.args.tree.now).nodes in
    let begun = (g.T.DataFolder.state c.begin.new.self).nodes in
    c.append.ensures.proper (begun_file conf_path old begun c.in_ok-begin.ensures.nodes) ∙ c.begin.ensures.proper (in_root conf_path old refl)

pub returns-clause-proper : goal.returns-clause-proper
returns-clause-proper g c =
    let old = (g.T.DataFolder.state c.args.tree.now).nodes in
    let begun = (g.T.DataFolder.state c.begin.new.self).nodes in
    c.begin-2.ensures.proper (subst (λ (p : Text). IsPlaced (g.T.DataFolder.state c.append.new.self).nodes p) (sym c.signal_path.ensures) (signal_placed (log_fetch_of c.args.fetch.now) (g.T.DataFolder.state c.append.new.self).nodes))
    ∙ c.append.ensures.proper (begun_file conf_path old begun c.in_ok-begin.ensures.nodes)
    ∙ c.begin.ensures.proper (in_root conf_path old refl)
