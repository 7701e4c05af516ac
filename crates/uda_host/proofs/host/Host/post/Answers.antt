use Rattle.std.proofs.Common.{subst, rules}
use Rattle.uda_host.specs.Host.{IsConsistent}
use Rattle.uda_host.proofs.Hosts.{host_posts, consistent}
use Rattle.uda_host.proofs.host.Host.post.Goals as goal

pub invariant_of-self : goal.invariant_of-self
invariant_of-self g c = (host_posts c.args.command.now c.self.view_is c.self.invariant c.requires.credit
    c.requires.above c.write_command.ensures.legible c.write_command.ensures.posted
    (search rules) c.push.ensures).host

pub returns-clause-posts : goal.returns-clause-posts
returns-clause-posts g c =
    (host_posts c.args.command.now c.self.view_is c.self.invariant c.requires.credit c.requires.above
    c.write_command.ensures.legible c.write_command.ensures.posted c.read_ip.ensures.starts_polling c.push.ensures).so

pub returns-clause-consistent : goal.returns-clause-consistent
returns-clause-consistent g c = consistent (invariant_of-self g c)

pub returns-clause-before : goal.returns-clause-before
returns-clause-before g c = subst IsConsistent c.self.view_is (consistent c.self.invariant)
