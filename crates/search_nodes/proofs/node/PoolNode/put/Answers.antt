use Rattle.search_nodes.proofs.Completing.{put-ready, put-takes}
use Rattle.search_nodes.proofs.node.PoolNode.put.Goals as goal

pub complete-requires-clause-ready : goal.complete-requires-clause-ready
complete-requires-clause-ready c =
    put-ready c.args.inst.now c.args.table.now.cuts c.args.self.now c.args.demand.0 c.args.found c.requires.sound c.add-left.new.self c.requires.round c.add-left.ensures.node

pub returns-clause-takes : goal.returns-clause-takes
returns-clause-takes c =
    put-takes c.args.inst.now c.args.table.now.cuts c.args.self.now c.args.demand.0 c.args.found c.requires.sound c.add-left.new.self c.complete.new.self c.add-left.ensures.node c.complete.ensures
