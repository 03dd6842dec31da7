use Rattle.server_talk.proofs.Startup.{joined}
use Rattle.server_talk.proofs.session.sends.parameters.Goals as goal

pub returns : goal.returns
returns c =
    joined c.args.user.now c.args.database.now c.new-bytes.result.items c.add_parameter.new.bytes.items c.add_parameter-2.new.bytes.items c.add_parameter-3.new.bytes.items c.add_parameter-4.new.bytes.items c.add_parameter-5.new.bytes.items c.push.new.self.items c.new-bytes.ensures.items c.in_ok-add_parameter.ensures c.in_ok-add_parameter-2.ensures c.in_ok-add_parameter-3.ensures c.in_ok-add_parameter-4.ensures c.in_ok-add_parameter-5.ensures c.in_ok-push.ensures.items
