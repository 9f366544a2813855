use Rattle.wgr_reply.proofs.response.write_fault.Goals as goal

pub returns-in-NoSuchPath : goal.returns-in-NoSuchPath
returns-in-NoSuchPath c = rw c.in-NoSuchPath.is c.write_plain-in-NoSuchPath.ensures

pub returns-in-WrongMethod : goal.returns-in-WrongMethod
returns-in-WrongMethod c = rw c.in-WrongMethod.is (rw (c.as_bytes-allow.ensures.value, c.text.ensures) at c.write_problem.ensures)

pub returns-in-UnknownToken : goal.returns-in-UnknownToken
returns-in-UnknownToken c = rw c.in-UnknownToken.is c.write_plain-in-UnknownToken.ensures

pub returns-in-BadField : goal.returns-in-BadField
returns-in-BadField c = rw c.in-BadField.is (rw c.name-in-BadField.ensures at c.write_problem-in-BadField.ensures)

pub returns-in-BadDump : goal.returns-in-BadDump
returns-in-BadDump c = rw c.in-BadDump.is c.write_problem-in-BadDump.ensures
