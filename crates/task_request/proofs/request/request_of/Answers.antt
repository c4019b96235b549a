use Rattle.task_request.proofs.request.request_of.Goals as goal

-- a call asks nothing of the data
pub returns-in-Call-clause-data : goal.returns-in-Call-clause-data
returns-in-Call-clause-data c = λ size inside. c.call.ensures.data size
